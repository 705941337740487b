use Rattle.std.proofs.Common.{◌≡◌, take}
use Rattle.scald_base.specs.Time.{period}
use Rattle.fixpoint_engine.specs.Waves.{waves_of}
use Rattle.critical_paths.specs.Tick.{slot_of}
use Rattle.critical_paths.specs.Views.{pins_shown}
use Rattle.critical_paths.proofs.view.View.pin_values.Given as goal

abbrev pub invariant-loop-pin : goal.invariant-loop-pin
invariant-loop-pin g l =
    l.values ≡ pins_shown l.self.circuit.now (waves_of l.self.waves.now) (take l.pin-index l.pins)
    l.reading
    (slot_of (period l.self.circuit.now.header) l.tick)
