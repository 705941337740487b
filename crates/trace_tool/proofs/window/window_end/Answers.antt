use Rattle.std.proofs.Common.{◌≡◌, ◌∙◌, ℕ, ap, arith, is_some, sym}
use Rattle.trace_tool.specs.Pass.{WindowEnds, begins, opened, shown, step_at, steps, window_ends}
use Rattle.trace_tool.proofs.Kept.{not_now, opened_now, window_now}
use Rattle.trace_tool.proofs.Last.{latest_is}
use Rattle.trace_tool.proofs.Meeting.{below_next}
use Rattle.trace_tool.proofs.window.window_end.Goals as goal

pub returns-then-breaks : goal.returns-then-breaks
returns-then-breaks c =
    let check = c.args.check in
    let begin = begins c.args.from c.args.wires.now 0 in
    let x = shown c.args.bits.now c.args.i.now c.args.wires.now 0 in
    let input = begins c.args.from c.args.wires.now 1 in
    let y = shown c.args.bits.now c.args.i.now c.args.wires.now 1 in
    let t = c.loop-t.t in
    let known = c.loop-t.invariant in
    let step : c.step_at-step.result ≡ step_at begin x t = c.step_at-step.ensures ∙ ap (λ (b : ℕ). step_at b x t) c.begin-clock.ensures in
    let changes : c.is_some-changes.result ≡ steps input y t =
    c.is_some-changes.ensures ∙ ap is_some (c.step_at.ensures ∙ ap (λ (b : ℕ). step_at b y t) c.begin-input.ensures) in
    let edge = opened_now check begin x t c.step_at-step.result c.loop-t.last c.opened_by-edge.result step known.0 c.opened_by-edge.ensures in
    let change = latest_is (steps input y) t c.is_some-changes.result c.loop-t.change c.latest-change.result changes known.1.1.0 c.latest-change.ensures in
    record {
      below = omega arith;
      is = sym (window_now check c.args.i.now.limits begin x input y t c.opened_by-edge.result c.latest-change.result c.loop-t.close c.is_some-changes.result
          c.breaks.result edge change known.1.0 changes c.breaks.ensures) ∙ c.if-breaks.true;
      none_before = known.1.1.1;
    }

pub loop-t-preserved : goal.loop-t-preserved
loop-t-preserved c =
    let check = c.args.check in
    let begin = begins c.args.from c.args.wires.now 0 in
    let x = shown c.args.bits.now c.args.i.now c.args.wires.now 0 in
    let input = begins c.args.from c.args.wires.now 1 in
    let y = shown c.args.bits.now c.args.i.now c.args.wires.now 1 in
    let t = c.loop-t.t in
    let known = c.loop-t.invariant in
    let step : c.step_at-step.result ≡ step_at begin x t = c.step_at-step.ensures ∙ ap (λ (b : ℕ). step_at b x t) c.begin-clock.ensures in
    let changes : c.is_some-changes.result ≡ steps input y t =
    c.is_some-changes.ensures ∙ ap is_some (c.step_at.ensures ∙ ap (λ (b : ℕ). step_at b y t) c.begin-input.ensures) in
    let edge = opened_now check begin x t c.step_at-step.result c.loop-t.last c.opened_by-edge.result step known.0 c.opened_by-edge.ensures in
    let change = latest_is (steps input y) t c.is_some-changes.result c.loop-t.change c.latest-change.result changes known.1.1.0 c.latest-change.ensures in (
      latest_is (steps begin x) t c.is_some-in-loop-t.result c.loop-t.last c.latest-last.result (c.is_some-in-loop-t.ensures ∙ ap is_some step) known.0
          c.latest-last.ensures,
      (
        latest_is (λ u. is_some (opened check begin x u)) t c.is_some.result c.loop-t.close c.latest-close.result (c.is_some.ensures ∙ ap is_some edge) known.1.0
            c.latest-close.ensures,
        (
          change,
          below_next (λ (t : ℕ). WindowEnds check c.args.bits.now c.args.i.now c.args.wires.now c.args.from t → ⊥) t known.1.1.1
              (not_now c.breaks.result (window_ends check c.args.i.now.limits begin x input y t)
              (window_now check c.args.i.now.limits begin x input y t c.opened_by-edge.result c.latest-change.result c.loop-t.close c.is_some-changes.result
              c.breaks.result edge change known.1.0 changes c.breaks.ensures) c.if-breaks.false),
        ),
      ),
    )
