use Rattle.step_values.specs.Image.{reg_rs_of}
use Rattle.step_values.proofs.Filled.{Filled3}
use Rattle.step_values.proofs.tables.reg_rs.Given as goal

abbrev pub invariant-loop-index : goal.invariant-loop-index
invariant-loop-index l = Filled3 reg_rs_of l.entries l.index
