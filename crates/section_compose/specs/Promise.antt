-- What is promised of sections that are joined.
use Rattle.std.specs.Prelude.{◌≡◌, ℕ, Bool, List, None}
use Rattle.program_call.specs.Program as program
use Rattle.section_compose.specs.declared.outcome.SectionsOutcome.{SectionsOutcome}
use Rattle.section_compose.specs.declared.outcome.SectionsOutcome.TheVariants.{Clean}
use Rattle.program_call.specs.declared.words.Request.{Request}
use Rattle.section_compose.specs.declared.section.Section.{Section}
use Rattle.section_compose.specs.Answer.{HasSections, composer}
use Rattle.section_compose.specs.Evaluated.{Settling, AllSettled, greatest_tick}
use Rattle.section_compose.specs.Rules.{circuits, first_broken}
use Rattle.section_compose.specs.Whole.{NeverBreaksWhole}

-- The sections of the text keep the rules and have settled, each by itself, and nothing of the
-- whole that they make breaks from the greatest of their printed ticks on.
pub record NeverBreaksJoined (text : List ℕ) : Type 0 where
  pub sections : List Section
  pub drawn : HasSections text sections
  pub joined : first_broken sections ≡ None
  pub settlings : List Settling
  pub settled : AllSettled (circuits sections) (circuits sections) settlings
  pub never : NeverBreaksWhole (circuits sections) (greatest_tick (circuits sections) settlings)

-- what is promised of the sections of a text that is answered so
abbrev pub IsPromised : Request → List ℕ → SectionsOutcome → Type 0
IsPromised command text o = o ≡ Clean → NeverBreaksJoined text

-- an outcome that says something of the text, all of which was read and all of whose answer was
-- written
abbrev pub speaks : SectionsOutcome → Bool
speaks = program.speaks composer
