use Rattle.std.proofs.Common.{◌≡◌, take}
use Rattle.narrowing.proofs.instance.copied_pins.Given as goal

abbrev pub invariant-loop-pin : goal.invariant-loop-pin
invariant-loop-pin l = l.copy ≡ take l.pin-index l.pins
