-- Which texts have an answer that is neither a refusal nor a net that does not settle.
use Rattle.std.specs.Prelude.{◌≡◌, ℕ, ◌≤◌, true, List, length, Option, None, Ok}
use Rattle.drawing_tree.specs.Tree.{Drawing}
use Rattle.drawing_grammar.specs.CanonicalDraws.{TextDraws}
use Rattle.design_gen.specs.Datapath.{datapath}
use Rattle.listing.specs.declared.case.Mode.{Mode}
use Rattle.scald_base.specs.declared.outcome.Outcome.{Outcome}
use Rattle.scald_tool.specs.declared.words.Command.{Command}
use Rattle.scald_tool.specs.declared.words.Command.TheVariants.{Verify, Format, Upgrade, Bench}
use Rattle.scald_tool.specs.Words.{command_of, reads}
use Rattle.program_call.specs.Answer.{is_finished}
use Rattle.program_call.specs.Promise.{TextSettles}
use Rattle.scald_tool.specs.Answer.{most_bytes}
use Rattle.scald_tool.specs.Promise.{IsAnswered}

-- The text passes every stage of a form: for `format` and `upgrade` it draws a drawing, for
-- `verify` it settles, and for `bench` the generated drawing does, whatever the text is.
pub data Passes (text : List ℕ) : Command → Type 0 where
  formatted : (d : Drawing) → TextDraws text d → Passes text Format
  upgraded : (d : Drawing) → TextDraws text d → Passes text Upgrade
  verified : (mode : Mode) (rounds : Option ℕ) → TextSettles rounds text →
      Passes text (Verify mode rounds)
  benched : (sections : ℕ) → TextSettles None (datapath sections) → Passes text (Bench sections)

-- To words of a form, and a text that is not too long if the form reads and that passes every
-- stage, the answer is the one that they have, with exactly its bytes, and it is finished.
abbrev pub IsFinished : List (List ℕ) → List ℕ → Outcome → Option (List ℕ) → Option (List ℕ) →
    Type 0
IsFinished words text o taken taken' = IsAnswered words text o taken taken' × (is_finished o ≡ true)

-- the words are of a form, and the text passes every stage of it
pub record AsksWell (words : List (List ℕ)) (text : List ℕ) : Type 0 where
  pub command : Command
  pub form : command_of words ≡ Ok command
  pub short : reads command ≡ true → length text ≤ most_bytes
  pub passes : Passes text command
