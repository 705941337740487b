use Rattle.std.proofs.Common.{to_z, of_z, w64}
use Rattle.scald_base.specs.Time.{period}
use Rattle.fixpoint_engine.specs.Waves.{waves_of}
use Rattle.critical_paths.specs.Tick.{slot_of}
use Rattle.critical_paths.proofs.Showing.{shown_more}
use Rattle.critical_paths.proofs.view.View.pin_values.Goals as goal

pub loop-pin-preserved : goal.loop-pin-preserved
loop-pin-preserved g c =
    let circuit = c.args.self.now.circuit.now in
    shown_more circuit (waves_of c.args.self.now.waves.now) c.args.pins.now c.args.reading
    (slot_of (period circuit.header) (to_z w64 (of_z w64 c.args.tick)))
    c.loop-pin.pin-index _ c.pin_value.result c.loop-pin.values c.push.new.self c.loop-pin-test.true
    c.loop-pin.invariant
    c.pin_value.ensures c.in_ok-push.ensures.ok
