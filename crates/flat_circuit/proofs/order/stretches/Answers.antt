use Rattle.std.proofs.Common.{refl, arith}
use Rattle.flat_circuit.proofs.Stretches.{stretch_more}
use Rattle.flat_circuit.proofs.order.stretches.Goals as goal

pub loop-begin-preserved : goal.loop-begin-preserved
loop-begin-preserved c =
    let after = c.end_of-end.ensures.after in (
      rw c.in_ok-push.ensures.items (stretch_more c.loop-begin.stretches.items _ c.loop-begin.begin c.end_of-end.result (omega arith) refl refl c.loop-begin.invariant.0),
      c.end_of-end.ensures.within,
    )
