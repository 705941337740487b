-- Why the sections of a text are not all read.
use Rattle.std.specs.Prelude.{◌≡◌, ℕ, ◌+◌, ◌-◌, ◌<◌, List, ⊤}
use Rattle.std.specs.List.{All}
use Rattle.scald_base.specs.Time.{period}
use Rattle.section_compose.specs.declared.answer.End.{End}
use Rattle.section_compose.specs.declared.answer.End.TheVariants.{Refused, NoMemory}
use Rattle.section_compose.specs.declared.section.Section.{Section}
use Rattle.section_compose.specs.Answer.{RefusesFirst}

-- The first of these texts that is refused, counted from 1; or memory ran out.
abbrev pub IsRefusedIn : List (List ℕ) → End → Type 0
IsRefusedIn texts (Refused section refusal) =
    (section ≡ section - 1 + 1) × RefusesFirst texts (section - 1) refusal
IsRefusedIn texts NoMemory = ⊤

-- each section has a tick in its period
abbrev pub AreTimed : List Section → Type 0
AreTimed sections = All (λ (s : Section). 0 < period s.circuit.header) sections
