use Rattle.std.proofs.Common.{◌≡◌, ◌++◌, drop}
use Rattle.narrowing.specs.Cone.{nets_of_pins}
use Rattle.narrowing.proofs.cone.add_nets_of.Given as goal

abbrev pub invariant-loop-pin : goal.invariant-loop-pin
invariant-loop-pin l =
    l.nets.items ++ nets_of_pins (drop l.pin-index l.pins) ≡ l.fn.nets.items ++ nets_of_pins l.pins
