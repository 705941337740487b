-- The outcomes of decisions: their statuses, and the ends of a call that are among them.
use Rattle.std.specs.Prelude.{ℕ, Option, Some, None}
use Rattle.scald_base.specs.declared.call_end.CallEnd.{CallEnd}
use Rattle.scald_base.specs.Outcome.{ended, status_of as outcome_status}
use Rattle.fault_decider.specs.declared.outcome.DecideOutcome.{DecideOutcome}
use Rattle.fault_decider.specs.declared.outcome.DecideOutcome.TheVariants.{Settled, Faulty, Done, NoRun, Refused, Unsettled, Ended}

abbrev pub status_of : DecideOutcome → ℕ
status_of Settled = 0
status_of Faulty = 1
status_of Done = 0
status_of NoRun = 10
status_of (Refused r) = 2
status_of (Unsettled place round) = 3
status_of (Ended end) = outcome_status (ended end)

-- the end that an outcome is of, if it says nothing of the text
abbrev pub end_of : DecideOutcome → Option CallEnd
end_of Settled = None
end_of Faulty = None
end_of Done = None
end_of NoRun = None
end_of (Refused r) = None
end_of (Unsettled place round) = None
end_of (Ended end) = Some end
