use Rattle.std.proofs.Common.{◌≡◌}
use Rattle.wave_core.specs.Slots.{slots}
use Rattle.pin_waves.proofs.CodeSlots.{early_slot}
use Rattle.pin_waves.proofs.ideal_clock.clock_slots.Given as goal

abbrev pub invariant-slots : goal.invariant-slots
invariant-slots l = l.cells.items ≡ slots l.slot (early_slot l.h l.clock l.early)
