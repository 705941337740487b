use Rattle.std.proofs.Common.{◌≡◌, ◌≤◌, ◌&&◌, to_z, of_z, w64, true, false, not, ap, subst, ◌∙◌, arith}
use Rattle.std.proofs.lemmas.Int.{ints}
use Rattle.scald_base.specs.Time.{IsHeader, period}
use Rattle.step_values.specs.Steps.{has}
use Rattle.step_values.specs.Cell.{values}
use Rattle.skew_algebra.specs.Wave.{fold}
use Rattle.fixpoint_engine.specs.Waves.{pin_wave, waves_of}
use Rattle.fixpoint_engine.proofs.Fits.{long_pin}
use Rattle.critical_paths.specs.Event.{beside}
use Rattle.critical_paths.specs.Tick.{slot_of, tick_beside}
use Rattle.critical_paths.proofs.Pins.{target_exists}
use Rattle.critical_paths.proofs.Showing.{past_shows}
use Rattle.critical_paths.proofs.view.View.ended_by.Goals as goal

pub returns : goal.returns
returns g c =
    let circuit = c.args.self.now.circuit.now in
    let ws = waves_of c.args.self.now.waves.now in
    let w = pin_wave circuit ws c.args.pin in
    let p = period circuit.header in
    let known = subst IsHeader c.header.ensures c.known.ensures in
    let least : 2 ≤ p = known.shortest in
    let at : to_z w64 (of_z w64 c.args.tick) ≡ c.args.tick = omega (arith, ints) in
    let next : to_z w64 (of_z w64 c.beside.result) ≡ c.beside.result = omega (arith, ints) in
    let past : c.pin_value.result ≡ fold values w (beside p c.args.corner (slot_of p c.args.tick)) =
    past_shows w p c.args.corner c.args.tick c.pin_value.result
    (long_pin circuit ws c.args.pin c.requires.sees.fit.each_slot
    (target_exists circuit c.args.pin c.requires.pin))
    (omega (arith, least))
    (c.pin_value.ensures ∙ ap (λ t. fold values w (slot_of p t)) (next ∙ c.beside.ensures
    ∙ ap (tick_beside c.args.corner) at)) in
    record {
      rises = c.ends.ensures.rises ∙ ap (λ v. has c.args.now false true && not (has v false true))
          past;
      falls = c.ends.ensures.falls ∙ ap (λ v. has c.args.now true false && not (has v true false))
          past;
    }
