use Rattle.std.proofs.Common.{take}
use Rattle.std.specs.List.{AllZip}
use Rattle.flat_circuit.specs.Alike.{PinsAlike}
use Rattle.flat_circuit.proofs.likeness.are_all_pins_alike.Given as goal

abbrev pub invariant-loop-place : goal.invariant-loop-place
invariant-loop-place l = AllZip (PinsAlike l.classes) (take l.place l.a) (take l.place l.b)
