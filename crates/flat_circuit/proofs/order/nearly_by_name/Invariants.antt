use Rattle.std.proofs.Common.{◌≡◌, take}
use Rattle.std.specs.List.{flat_map}
use Rattle.flat_circuit.specs.Stretch.{numbers_of}
use Rattle.flat_circuit.proofs.order.nearly_by_name.Given as goal

abbrev pub invariant-loop-place : goal.invariant-loop-place
invariant-loop-place l = l.order.items ≡ flat_map numbers_of (take l.place l.stretches.items)
