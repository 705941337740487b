use Rattle.std.proofs.Common.{refl, arith}
use Rattle.step_values.specs.Image.{latch_rs_of}
use Rattle.step_values.proofs.Filled.{filled4, index4_below}
use Rattle.step_values.proofs.tables.latch_rs.Goals as goal

pub loop-index-init : goal.loop-index-init
loop-index-init c = record {
  size = refl;
  below = λ t u v w h. absurd (omega arith);
}

pub loop-index-preserved : goal.loop-index-preserved
loop-index-preserved c =
    filled4 latch_rs_of c.loop-index.entries c.loop-index.index _ _ _ _ c.latch_rs_value.result (omega arith)
    c.value_at.ensures c.value_at-in-loop-index.ensures c.value_at-in-loop-index-2.ensures c.value_at-in-loop-index-3.ensures c.latch_rs_value.ensures c.loop-index.invariant

pub returns : goal.returns
returns c t u v w = c.loop-index.invariant.below t u v w (omega (arith, index4_below t u v w))
