use Rattle.std.proofs.Common.{◌≡◌, map}
use Rattle.std.specs.List.{range_with_len}
use Rattle.trace_sim.specs.Making.{begun_row}
use Rattle.trace_sim.proofs.making.begin.Given as goal

abbrev pub invariant-loop-n : goal.invariant-loop-n
invariant-loop-n l = l.bits.items ≡ map (begun_row l.c l.choice) (range_with_len 0 l.n)
