use Rattle.std.proofs.Common.{length, ◌-◌}
use Rattle.std.specs.List.{flat_map}
use Rattle.std.specs.List.Sorted.{IsPermutation}
use Rattle.flat_circuit.specs.Stretch.{numbers_of}
use Rattle.flat_circuit.proofs.order.+sort_parts.Given as goal

abbrev pub decreases-sort_parts : goal.decreases-sort_parts
decreases-sort_parts l = l.parts

abbrev pub invariant-loop-begin : goal.invariant-loop-begin
invariant-loop-begin l = IsPermutation (flat_map numbers_of l.fn.stretches) (flat_map numbers_of l.stretches)

abbrev pub decreases-loop-begin : goal.decreases-loop-begin
decreases-loop-begin l = length l.initial.stretches - l.begin
