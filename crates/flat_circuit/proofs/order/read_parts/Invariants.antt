use Rattle.std.proofs.Common.{◌≡◌, map}
use Rattle.flat_circuit.specs.Stretch.{numbers_of}
use Rattle.flat_circuit.proofs.order.read_parts.Given as goal

abbrev pub invariant-loop-place : goal.invariant-loop-place
invariant-loop-place l = map numbers_of l.stretches ≡ map numbers_of l.fn.stretches
