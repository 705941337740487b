-- What the import answers to its words and to the bytes of a netlist.
use Rattle.std.specs.Prelude.{◌≡◌, ℕ, true, List, [], ◌∷◌, ◌++◌, codes, decimal, Result, Ok, Err}
use Rattle.netlist_import.specs.declared.netlist.Module.{Module}
use Rattle.netlist_import.specs.declared.read.NetlistRefusal.{NetlistRefusal}
use Rattle.netlist_import.specs.Fault.{name_of_kind, number_of_kind}
use Rattle.netlist_import.specs.Read.{Reading, reading}
use Rattle.netlist_import.specs.Design.{cell_macros, design_macros, macros_text}
use Rattle.program_call.specs.Program.{Meaning}
use Rattle.netlist_import.specs.declared.forms.Command.{Command}
use Rattle.netlist_import.specs.declared.forms.Command.TheVariants.{Design, Cells}
use Rattle.netlist_import.specs.declared.outcome.ImportOutcome.{ImportOutcome}
use Rattle.netlist_import.specs.declared.outcome.ImportOutcome.TheVariants.{Done, Refused, Ended}
use Rattle.netlist_import.specs.Outcome.{end_of}
use Rattle.netlist_import.specs.Forms.{command_of}

-- the most bytes of a text
abbrev pub most_bytes : ℕ
most_bytes = 67108864

-- why a text is refused, and at which line and column
unfoldable pub refusal_line : NetlistRefusal → List ℕ
refusal_line r =
    codes "REFUSED " ++ decimal (number_of_kind r.kind) ++ codes " " ++ name_of_kind r.kind
    ++ codes " " ++ decimal r.place.line ++ codes ":" ++ decimal r.place.col ++ 10 ∷ []

-- the macros that are asked for
abbrev pub text_of : Command → List Module → List ℕ
text_of Design ms = macros_text (design_macros ms)
text_of Cells ms = macros_text (cell_macros ms)

-- A netlist has its macros, and another text the line that refuses it.
abbrev pub IsAnswer : Command → Reading → ImportOutcome → List ℕ → Type 0
IsAnswer command (Ok ms) o bytes = (o ≡ Done) × (bytes ≡ text_of command ms)
IsAnswer command (Err r) o bytes = (o ≡ Refused r) × (bytes ≡ refusal_line r)

abbrev pub Imported : Command → List ℕ → ImportOutcome → List ℕ → Type 0
Imported command text o bytes = IsAnswer command (reading text) o bytes

abbrev pub most_for : Result Command ℕ → ℕ
most_for (Ok command) = most_bytes
most_for (Err i) = 0

-- Both forms read.
abbrev pub importer : Meaning Command ImportOutcome
importer = record {
  command_of = command_of;
  reads = λ command. true;
  most_bytes = most_for;
  Replied = Imported;
  AreOne = λ o bytes p others. (o ≡ p) × (bytes ≡ others);
  ended = Ended;
  end_of = end_of;
}
