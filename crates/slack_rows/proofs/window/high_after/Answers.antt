use Rattle.std.proofs.Common.{ℕ, ◌+◌, Bool, false, true, cond, length, refl, sym, ap, ◌∙◌, None}
use Rattle.std.specs.Option.{option_map}
use Rattle.step_values.specs.Cell.{values}
use Rattle.step_values.specs.Steps.{has}
use Rattle.wave_core.proofs.Places.{round_cell}
use Rattle.scald_base.proofs.Back.{mod_small}
use Rattle.fixpoint_engine.specs.Pins.{read}
use Rattle.point_check.specs.Point.{first_low}
use Rattle.slack_rows.specs.Watch.{fall_within}
use Rattle.slack_rows.proofs.window.high_after.Goals as goal

pub returns-then-not-may_rise-clause-is : goal.returns-then-not-may_rise-clause-is
returns-then-not-may_rise-clause-is g c =
    let cells = g.W.CyclicWave.cells c.args.clock.now in
    let p : ℕ = length cells in
    let slot = c.args.slot in
    let here = round_cell values cells p slot slot c.at.result refl (sym (mod_small slot p c.requires)) c.at.ensures in
    sym (ap (λ (b : Bool). cond b (fall_within (read cells) slot (first_low p (read cells) slot)) None)
    (ap (λ v. has v false true) here ∙ sym c.may_rise.ensures ∙ c.if-not-may_rise.true))

pub returns-in_err-low-clause-is : goal.returns-in_err-low-clause-is
returns-in_err-low-clause-is g c =
    let cells = g.W.CyclicWave.cells c.args.clock.now in
    let p : ℕ = length cells in
    let slot = c.args.slot in
    let here = round_cell values cells p slot slot c.at.result refl (sym (mod_small slot p c.requires)) c.at.ensures in
    ap (option_map (λ high. slot + high)) c.from_residual.ensures
    ∙ sym (ap (λ (b : Bool). cond b (fall_within (read cells) slot (first_low p (read cells) slot)) None)
    (ap (λ v. has v false true) here ∙ sym c.may_rise.ensures ∙ c.if-not-may_rise.false)
    ∙ ap (fall_within (read cells) slot) (sym c.first_low.ensures.first ∙ c.in_err-low.was))

pub returns-clause-is : goal.returns-clause-is
returns-clause-is g c =
    let cells = g.W.CyclicWave.cells c.args.clock.now in
    let p : ℕ = length cells in
    let slot = c.args.slot in
    let here = round_cell values cells p slot slot c.at.result refl (sym (mod_small slot p c.requires)) c.at.ensures in
    ap (option_map (λ high. slot + high)) c.last_fall.ensures.last
    ∙ sym (ap (λ (b : Bool). cond b (fall_within (read cells) slot (first_low p (read cells) slot)) None)
    (ap (λ v. has v false true) here ∙ sym c.may_rise.ensures ∙ c.if-not-may_rise.false)
    ∙ ap (fall_within (read cells) slot) (sym c.first_low.ensures.first ∙ c.in_ok-low.was))
