use Rattle.std.proofs.Common.{◌≡◌}
use Rattle.wave_core.specs.Slots.{slots}
use Rattle.pin_waves.proofs.CodeSlots.{stable_slot}
use Rattle.pin_waves.proofs.stable_spans.stable_slots.Given as goal

abbrev pub invariant-slots : goal.invariant-slots
invariant-slots l = l.cells.items ≡ slots l.slot (stable_slot l.h l.spans)
