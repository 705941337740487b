use Rattle.std.proofs.Common.{◌≡◌, ◌∙◌, ℕ, ap, is_some}
use Rattle.trace_tool.specs.Pass.{PulseEnds, begins, pulse_ends, shown, step_at, steps}
use Rattle.trace_tool.proofs.Kept.{narrow_now, not_now}
use Rattle.trace_tool.proofs.Last.{latest_is}
use Rattle.trace_tool.proofs.Meeting.{below_next}
use Rattle.trace_tool.proofs.pulse.pulse_end.Goals as goal

pub loop-t-preserved : goal.loop-t-preserved
loop-t-preserved c =
    let begin = begins c.args.from c.args.wires.now 0 in
    let x = shown c.args.bits.now c.args.i.now c.args.wires.now 0 in
    let t = c.loop-t.t in
    let step : c.step_at-step.result ≡ step_at begin x t = c.step_at-step.ensures ∙ ap (λ (b : ℕ). step_at b x t) c.begin-clock.ensures in (
      latest_is (steps begin x) t c.is_some.result c.loop-t.last c.latest-last.result (c.is_some.ensures ∙ ap is_some step) c.loop-t.invariant.0
          c.latest-last.ensures,
      below_next (λ (t : ℕ). PulseEnds c.args.bits.now c.args.i.now c.args.wires.now c.args.from t → ⊥) t c.loop-t.invariant.1
          (not_now c.narrow.result (pulse_ends c.args.i.now.limits begin x t)
          (narrow_now c.args.i.now.limits begin x t c.step_at-step.result c.loop-t.last c.narrow.result step c.loop-t.invariant.0 c.narrow.ensures) c.if-narrow.false),
    )
