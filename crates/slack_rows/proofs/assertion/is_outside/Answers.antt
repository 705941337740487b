use Rattle.std.proofs.Common.{◌≡◌, ℕ, ◌<◌, ◌≤◌, List, Some, min, length, slice_get, arith, sym, refl, ◌∙◌, false}
use Rattle.step_values.specs.declared.value.Value.{Value}
use Rattle.wave_core.specs.Slots.{SameUntil}
use Rattle.fixpoint_engine.specs.Pins.{read}
use Rattle.fixpoint_engine.proofs.ReadSlots.{below_run, read_at, same_read}
use Rattle.slack_rows.specs.Held.{is_step_outside}
use Rattle.slack_rows.proofs.Listed.{any_found, any_nowhere}
use Rattle.slack_rows.proofs.assertion.is_outside.Goals as goal

outside_read : (found wide : List Value) (s : ℕ) (v w : Value) → s < length found → s < length wide → slice_get found s ≡ Some v → slice_get wide s ≡ Some w →
    is_step_outside (read found s) (read wide s) ≡ is_step_outside v w
outside_read found wide s v w below below' is is' =
    let v_is : read found s ≡ v = read_at found s s v refl below is in
    let w_is : read wide s ≡ w = read_at wide s s w refl below' is' in
    λ i. is_step_outside (v_is i) (w_is i)

outside_run : (found wide : List Value) (slot end end' s : ℕ) (v w : Value) → SameUntil found slot end → SameUntil wide slot end' → slice_get found slot ≡ Some v → slice_get wide slot ≡ Some w →
    slot ≤ s → s < end → s < end' → is_step_outside (read found s) (read wide s) ≡ is_step_outside v w
outside_run found wide slot end end' s v w until until' is is' above below below' =
    let v_is : read found s ≡ v = same_read found slot end s v until is above below in
    let w_is : read wide s ≡ w = same_read wide slot end' s w until' is' above below' in
    λ i. is_step_outside (v_is i) (w_is i)

pub returns-then-steps_beyond : goal.returns-then-steps_beyond
returns-then-steps_beyond g c =
    let found = g.W.CyclicWave.cells c.args.fold.now in
    let wide = g.W.CyclicWave.cells c.args.wide.now in
    let p = c.period.ensures in
    sym (any_found (λ t. is_step_outside (read found t) (read wide t)) (length found) 0 c.changes.slot (omega arith) (omega (arith, p))
    (outside_read found wide c.changes.slot c.at.result c.at-in-changes.result (omega (arith, p)) (omega (arith, p)) c.at.ensures c.at-in-changes.ensures ∙ sym c.steps_beyond.ensures ∙ c.if-steps_beyond.true))

pub changes-preserved : goal.changes-preserved
changes-preserved g c =
    let found = g.W.CyclicWave.cells c.args.fold.now in
    let wide = g.W.CyclicWave.cells c.args.wide.now in
    let least : c.min-slot.result ≡ min c.same_until.result c.same_until-in-changes.result = c.min-slot.ensures in
    below_run (λ k. is_step_outside (read found k) (read wide k) ≡ false) c.changes.slot _ c.changes.invariant
    (λ k above below. outside_run found wide c.changes.slot c.same_until.result c.same_until-in-changes.result k c.at.result c.at-in-changes.result c.same_until.ensures c.same_until-in-changes.ensures
    c.at.ensures c.at-in-changes.ensures above (omega (arith, below, least)) (omega (arith, below, least)) ∙ sym c.steps_beyond.ensures ∙ c.if-steps_beyond.false)

pub returns : goal.returns
returns g c =
    let p = c.period.ensures in
    let found = g.W.CyclicWave.cells c.args.fold.now in
    let wide = g.W.CyclicWave.cells c.args.wide.now in
    sym (any_nowhere (λ t. is_step_outside (read found t) (read wide t)) (length found) 0 (λ k from below. c.changes.invariant k (omega (arith, p, below))))
