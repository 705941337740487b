-- The outcomes of the simulator: their statuses, and the ends of a call that are among them.
use Rattle.std.specs.Prelude.{ℕ, Option, Some, None}
use Rattle.scald_base.specs.declared.call_end.CallEnd.{CallEnd}
use Rattle.scald_base.specs.Outcome.{ended, status_of as outcome_status}
use Rattle.trace_tool.specs.declared.outcome.TraceOutcome.{TraceOutcome}
use Rattle.trace_tool.specs.declared.outcome.TraceOutcome.TheVariants.{Done, Broken, Refused, NotRun, Ended, BadTrace, NoCase, TooBig}

abbrev pub status_of : TraceOutcome → ℕ
status_of Done = 0
status_of Broken = 1
status_of (Refused r) = 2
status_of NotRun = 3
status_of (Ended end) = outcome_status (ended end)
status_of (BadTrace i) = 9
status_of (NoCase count) = 10
status_of TooBig = 11

-- the end that an outcome is of, if it says nothing of the text
abbrev pub end_of : TraceOutcome → Option CallEnd
end_of Done = None
end_of Broken = None
end_of (Refused r) = None
end_of NotRun = None
end_of (Ended end) = Some end
end_of (BadTrace i) = None
end_of (NoCase count) = None
end_of TooBig = None
