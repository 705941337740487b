use Rattle.std.proofs.Common.{◌≡◌, ◌++◌, drop}
use Rattle.trace_sim.proofs.levels.copied.Given as goal

abbrev pub invariant-loop-bit : goal.invariant-loop-bit
invariant-loop-bit l = l.copy ++ drop l.bit-index l.row ≡ l.row
