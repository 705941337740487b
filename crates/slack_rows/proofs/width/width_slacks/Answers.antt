use Rattle.std.proofs.Common.{ℕ, ◌≡◌, true, false, ap, subst, ◌∙◌}
use Rattle.std.specs.Prelude.{IfSome}
use Rattle.scald_base.specs.Time.{period}
use Rattle.flat_circuit.specs.declared.instance.Pin.{Pin}
use Rattle.flat_circuit.specs.Limits.{high_of, low_of}
use Rattle.fixpoint_engine.specs.Pins.{read}
use Rattle.fixpoint_engine.specs.Waves.{pin_wave, waves_of}
use Rattle.slack_rows.specs.Limit.{begin_of}
use Rattle.slack_rows.specs.Pulse.{begins_at, left_at, narrowest, finding_wave}
use Rattle.slack_rows.specs.Slack.{finding_of}
use Rattle.slack_rows.specs.Views.{IsPulseWindow, Tells}
use Rattle.slack_rows.proofs.Breadths.{level_finding, pin_of_net}
use Rattle.slack_rows.proofs.width.width_slacks.Goals as goal

pub width-requires-clause-pin : goal.width-requires-clause-pin
width-requires-clause-pin g c =
    pin_of_net c.args.view.now.circuit.now c.args.checker.now.pins c.first_pin-pin.result c.requires.fits.exists.reads c.first_pin-pin.ensures

pub width-requires-2-clause-pin : goal.width-requires-2-clause-pin
width-requires-2-clause-pin g c =
    pin_of_net c.args.view.now.circuit.now c.args.checker.now.pins c.first_pin-pin.result c.requires.fits.exists.reads c.first_pin-pin.ensures

pub returns-clause-finding : goal.returns-clause-finding
returns-clause-finding g c =
    let d = c.args.view.now.circuit.now in
    let ws = waves_of c.args.view.now.waves.now in
    let j = c.args.checker.now in
    let p = period d.header in
    let pin = c.first_pin-pin.result in
    let wave = read (pin_wave d ws pin).cells in (
      subst (Tells p c.in_ok-width.field-0)
          (ap (λ (limit : ℕ). finding_of 0 (begin_of true) (finding_wave limit (left_at d ws true pin) wave (narrowest p true wave))) c.high.ensures
          ∙ level_finding d ws j true (high_of j.limits) pin c.first_pin-pin.ensures) c.in_ok-width.ensures.finding,
      subst (Tells p c.in_ok-width-2.field-0)
          (ap (λ (limit : ℕ). finding_of 0 (begin_of false) (finding_wave limit (left_at d ws false pin) wave (narrowest p false wave))) c.low.ensures
          ∙ level_finding d ws j false (low_of j.limits) pin c.first_pin-pin.ensures) c.in_ok-width-2.ensures.finding,
    )

pub returns-clause-windows : goal.returns-clause-windows
returns-clause-windows g c pin first =
    let d = c.args.view.now.circuit.now in
    let ws = waves_of c.args.view.now.waves.now in
    let limits = c.args.checker.now.limits in
    let same : c.first_pin-pin.result ≡ pin = let at = c.first_pin-pin.ensures in cc in (
      subst (λ (x : Pin). IfSome c.in_ok-width.field-0 (IsPulseWindow (high_of limits) (begins_at d ws true x))) same
          (subst (λ (limit : ℕ). IfSome c.in_ok-width.field-0 (IsPulseWindow limit (begins_at d ws true c.first_pin-pin.result)))
          c.high.ensures c.in_ok-width.ensures.window),
      subst (λ (x : Pin). IfSome c.in_ok-width-2.field-0 (IsPulseWindow (low_of limits) (begins_at d ws false x))) same
          (subst (λ (limit : ℕ). IfSome c.in_ok-width-2.field-0 (IsPulseWindow limit (begins_at d ws false c.first_pin-pin.result)))
          c.low.ensures c.in_ok-width-2.ensures.window),
    )
