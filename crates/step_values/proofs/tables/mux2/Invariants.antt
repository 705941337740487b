use Rattle.step_values.specs.Image.{mux2_of}
use Rattle.step_values.proofs.Filled.{Filled3}
use Rattle.step_values.proofs.tables.mux2.Given as goal

abbrev pub invariant-loop-index : goal.invariant-loop-index
invariant-loop-index l = Filled3 mux2_of l.entries l.index
