use Rattle.step_values.specs.Image.{latch_rs_of}
use Rattle.step_values.proofs.Filled.{Filled4}
use Rattle.step_values.proofs.tables.latch_rs.Given as goal

abbrev pub invariant-loop-index : goal.invariant-loop-index
invariant-loop-index l = Filled4 latch_rs_of l.entries l.index
