use Rattle.fixpoint_engine.specs.Table.{wave_at, waves_at}
use Rattle.fixpoint_engine.specs.Waves.{pin_wave, waves_of}
use Rattle.fixpoint_engine.specs.Key.{shown_by}
use Rattle.fixpoint_engine.proofs.KeyPins.{known_added, pin_added}
use Rattle.fixpoint_engine.proofs.key.key_pins.Goals as goal

pub loop-pin-preserved : goal.loop-pin-preserved
loop-pin-preserved c =
    let pins = c.args.pins.now in
    let index = c.loop-pin.pin-index in
    let below = c.loop-pin-test.true in
    let before = c.loop-pin.invariant in
    let key = c.key_pin.result in
    record {
      marks = pin_added (λ p. p.hold) (λ p. p.hold) c.loop-pin.keys c.push.new.self key pins index _ c.in_ok-push.ensures.ok c.key_pin.ensures.hold below before.marks;
      known = λ table are known. known_added (λ p. p.wave) table c.loop-pin.keys c.push.new.self key c.in_ok-push.ensures.ok (c.key_pin.ensures.known table are known) (before.known table are known);
      shows = λ table are. pin_added (λ p. shown_by p (wave_at table p.wave)) (pin_wave c.args.c.now (waves_of (waves_at table c.args.numbers.now)))
          c.loop-pin.keys c.push.new.self key pins index _ c.in_ok-push.ensures.ok (c.key_pin.ensures.shows table are) below (before.shows table are);
    }
