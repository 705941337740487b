use Rattle.std.proofs.Common.{◌≡◌, ◌++◌, drop}
use Rattle.trace_sim.proofs.making.traces.Given as goal

abbrev pub invariant-loop-row : goal.invariant-loop-row
invariant-loop-row l = l.traces ++ drop l.row-index l.bits ≡ l.bits
