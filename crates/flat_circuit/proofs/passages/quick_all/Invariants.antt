use Rattle.std.proofs.Common.{◌≡◌, ◌++◌, drop}
use Rattle.flat_circuit.specs.Steps.{quick_list}
use Rattle.flat_circuit.proofs.passages.quick_all.Given as goal

abbrev pub invariant-loop-pin : goal.invariant-loop-pin
invariant-loop-pin l = l.list.items ++ quick_list l.nets.wires l.drivers l.instances (drop l.pin-index l.pins) ≡ quick_list l.nets.wires l.drivers l.instances l.pins
