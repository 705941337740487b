use Rattle.std.proofs.Common.{ℕ, List, subst, arith}
use Rattle.fixpoint_engine.specs.Waves.{waves_of}
use Rattle.drawing_notes.specs.Common.{skew_at}
use Rattle.drawing_notes.specs.Doubts.{AreCommon}
use Rattle.drawing_notes.proofs.Raising.{more_ticks, ticks_all}
use Rattle.drawing_notes.proofs.Stepped.{stepped_start}
use Rattle.drawing_notes.proofs.common.raise_ticks.Goals as goal

pub loop-number-init : goal.loop-number-init
loop-number-init g c =
    stepped_start 0 (more_ticks c.args.view.now.circuit.now (skew_at c.in_ok-skews.skews.items) c.in_ok-common.common.items) c.args.ticks.now

pub returns : goal.returns
returns g c = λ looped launched sees tells.
    let v = c.args.view.now in
    ticks_all v.circuit.now (waves_of v.waves.now) (skew_at c.in_ok-skews.skews.items) launched c.in_ok-common.common.items c.args.ticks.now c.loop-number.ticks
    c.loop-number.number c.in_ok-skews.ensures
    (subst (λ (skews : List ℕ). AreCommon v.circuit.now launched (skew_at skews) c.in_ok-common.common.items) c.deref.ensures.value
    (c.in_ok-common.ensures.are looped launched sees tells))
    (omega (arith, c.loop-number-test.false, c.loop-number.auto.number-end, c.instance_count-number-end.ensures)) c.loop-number.invariant
