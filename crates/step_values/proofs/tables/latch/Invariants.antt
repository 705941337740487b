use Rattle.step_values.specs.Image.{latch_of}
use Rattle.step_values.proofs.Filled.{Filled2}
use Rattle.step_values.proofs.tables.latch.Given as goal

abbrev pub invariant-loop-index : goal.invariant-loop-index
invariant-loop-index l = Filled2 latch_of l.entries l.index
