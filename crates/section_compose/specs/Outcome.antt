-- How a call on sections ends: its statuses, and the ends of a call that are among its outcomes.
use Rattle.std.specs.Prelude.{ℕ, ◌==◌, if◌then◌else◌, Option, Some, None}
use Rattle.scald_base.specs.declared.call_end.CallEnd.{CallEnd}
use Rattle.scald_base.specs.Outcome.{ended, status_of as outcome_status}
use Rattle.section_compose.specs.declared.outcome.SectionsOutcome.{SectionsOutcome}
use Rattle.section_compose.specs.declared.outcome.SectionsOutcome.TheVariants.{Clean, Faulty, Refused, Unsettled, Ended, BadCount, BadSection}

abbrev pub status_of : SectionsOutcome → ℕ
status_of Clean = 0
status_of (Faulty n) = 1
status_of (Refused section r) = 2
status_of (Unsettled section net round) = 3
status_of (Ended end) = outcome_status (ended end)
status_of (BadCount k) = 9
status_of (BadSection section rule net) = 10

-- the end that an outcome is of, if it says nothing of the text
abbrev pub end_of : SectionsOutcome → Option CallEnd
end_of Clean = None
end_of (Faulty n) = None
end_of (Refused section r) = None
end_of (Unsettled section net round) = None
end_of (Ended end) = Some end
end_of (BadCount k) = None
end_of (BadSection section rule net) = None

-- no fault, or so many
abbrev pub verdict_of : ℕ → SectionsOutcome
verdict_of count = if count == 0 then Clean else Faulty count
