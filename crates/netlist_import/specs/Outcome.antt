-- The outcomes of an import: their statuses, and the ends of a call that are among them.
use Rattle.std.specs.Prelude.{ℕ, Option, Some, None}
use Rattle.scald_base.specs.declared.call_end.CallEnd.{CallEnd}
use Rattle.scald_base.specs.Outcome.{ended, status_of as outcome_status}
use Rattle.netlist_import.specs.declared.outcome.ImportOutcome.{ImportOutcome}
use Rattle.netlist_import.specs.declared.outcome.ImportOutcome.TheVariants.{Done, Refused, Ended}

abbrev pub status_of : ImportOutcome → ℕ
status_of Done = 0
status_of (Refused r) = 2
status_of (Ended end) = outcome_status (ended end)

-- the end that an outcome is of, if it says nothing of the text
abbrev pub end_of : ImportOutcome → Option CallEnd
end_of Done = None
end_of (Refused r) = None
end_of (Ended end) = Some end
