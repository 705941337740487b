-- No reply of the import is an end of a call, and a text has one.
use Rattle.std.proofs.Common.{◌≡◌, ℕ, List, refl, sym, ◌∙◌, None, Ok, Err}
use Rattle.netlist_import.specs.Read.{Reading, reading}
use Rattle.program_call.specs.Program.{IsLawful}
use Rattle.netlist_import.specs.declared.forms.Command.{Command}
use Rattle.netlist_import.specs.declared.outcome.ImportOutcome.{ImportOutcome}
use Rattle.netlist_import.specs.Answer.{IsAnswer, importer}
use Rattle.netlist_import.specs.Outcome.{end_of}

speaks : (command : Command) (r : Reading) (o : ImportOutcome) (bytes : List ℕ) →
    IsAnswer command r o bytes → end_of o ≡ None
speaks command (Ok ms) o bytes is = λ k. end_of (is.0 k)
speaks command (Err refusal) o bytes is = λ k. end_of (is.0 k)

one_answer : (command : Command) (r : Reading) (o o' : ImportOutcome) (bytes bytes' : List ℕ) →
    IsAnswer command r o bytes → IsAnswer command r o' bytes' → (o ≡ o') × (bytes ≡ bytes')
one_answer command (Ok ms) o o' bytes bytes' is is' =
    (is.0 ∙ sym is'.0, is.1 ∙ sym is'.1)
one_answer command (Err refusal) o o' bytes bytes' is is' =
    (is.0 ∙ sym is'.0, is.1 ∙ sym is'.1)

pub importer_is_lawful : IsLawful importer
importer_is_lawful = record {
  ends = λ end. refl;
  replies = λ command text. speaks command (reading text);
  one = λ command text. one_answer command (reading text);
  same = λ o bytes. (refl, refl);
  unread = λ command text other o bytes none replied. absurd (cc);
}
