use Rattle.std.proofs.Common.{refl, arith}
use Rattle.step_values.specs.Image.{reg_rs_of}
use Rattle.step_values.proofs.Filled.{filled3, index3_below}
use Rattle.step_values.proofs.tables.reg_rs.Goals as goal

pub loop-index-init : goal.loop-index-init
loop-index-init c = record {
  size = refl;
  below = λ u v w h. absurd (omega arith);
}

pub loop-index-preserved : goal.loop-index-preserved
loop-index-preserved c =
    filled3 reg_rs_of c.loop-index.entries c.loop-index.index _ _ _ c.reg_rs_value.result (omega arith)
    c.value_at.ensures c.value_at-in-loop-index.ensures c.value_at-in-loop-index-2.ensures c.reg_rs_value.ensures c.loop-index.invariant

pub returns : goal.returns
returns c u v w = c.loop-index.invariant.below u v w (omega (arith, index3_below u v w))
