use Rattle.std.proofs.Common.{◌∙◌, ◌&&◌, not, refl, sym, ap, arith, ℕ, Bool, true, length, Some}
use Rattle.step_values.specs.Steps.{has}
use Rattle.fixpoint_engine.specs.Pins.{read}
use Rattle.fixpoint_engine.proofs.ReadSlots.{read_at}
use Rattle.point_check.specs.Assertion.{first_excess}
use Rattle.slack_rows.specs.declared.slack.Reason.TheVariants.{Level}
use Rattle.slack_rows.specs.Held.{is_high_outside}
use Rattle.slack_rows.specs.Limit.{steps_outside}
use Rattle.slack_rows.proofs.Marking.{level_is}
use Rattle.slack_rows.proofs.assertion.first_level.Goals as goal

pub returns-in-Some : goal.returns-in-Some
returns-in-Some g c =
    let found = g.W.CyclicWave.cells c.args.fold.now in
    let wide = g.W.CyclicWave.cells c.args.wide.now in
    let slot = c.in-Some.slot in
    let below = c.in-Some.ensures.within in
    let long = c.requires in
    let own = read_at found slot slot c.at.result refl below c.at.ensures in
    let other = read_at wide slot slot c.at-in-Some.result refl (omega (arith, below, long)) c.at-in-Some.ensures in
    level_is (λ (t : ℕ). is_high_outside (read found t) (read wide t)) (Some (Level c.exceeds-is_high.result slot))
    (steps_outside (length found) (read found) (read wide)) (first_excess (length found) (read found) (read wide)) slot
    (sym c.is_outside.ensures ∙ c.if-is_outside.false) (sym c.in-Some.ensures.first)
    (ap (λ (b : Bool). Some (Level b slot))
    (c.exceeds-is_high.ensures ∙ sym (λ i. has (own i) true true && not (has (other i) true true))))
