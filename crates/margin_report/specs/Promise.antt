-- What the call of margins promises beside its answer.
use Rattle.std.specs.Prelude.{Bool, true, false}
use Rattle.scald_base.specs.declared.outcome.Outcome.{Outcome}
use Rattle.scald_base.specs.declared.outcome.Outcome.TheVariants.{Clean, Faulty, Done, Refused, Unsettled, BadWords, TooLong, ReadFault, WriteFault, NoMemory}

-- The outcomes that speak of a text: its margins are written, it is refused, or its waves do not
-- settle.
abbrev pub may_answer : Outcome → Bool
may_answer Done = true
may_answer (Refused r) = true
may_answer (Unsettled place round) = true
may_answer Clean = false
may_answer (Faulty n) = false
may_answer (BadWords i) = false
may_answer TooLong = false
may_answer ReadFault = false
may_answer WriteFault = false
may_answer NoMemory = false
