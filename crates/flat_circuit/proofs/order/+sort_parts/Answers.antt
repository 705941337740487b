use Rattle.std.proofs.Common.{◌-◌, subst}
use Rattle.std.specs.List.{flat_map}
use Rattle.std.specs.List.Sorted.{IsPermutation}
use Rattle.std.proofs.lemmas.List.Sorted.{IsPermutation-trans}
use Rattle.flat_circuit.specs.Stretch.{numbers_of}
use Rattle.flat_circuit.proofs.Stretches.{flat_map_by_map, flat_map_permutation, flat_map_part}
use Rattle.flat_circuit.proofs.order.+sort_parts.Goals as goal

pub loop-begin-init : goal.loop-begin-init
loop-begin-init t c =
    subst (λ x. IsPermutation x (flat_map numbers_of c.sort_unstable_by_key.new.self))
    (flat_map_by_map numbers_of c.read_parts.new.stretches c.args.stretches.now c.read_parts.ensures)
    (flat_map_permutation numbers_of c.read_parts.new.stretches c.sort_unstable_by_key.new.self c.sort_unstable_by_key.ensures.permutation)

pub loop-begin-preserved-then-end-begin-gt1 : goal.loop-begin-preserved-then-end-begin-gt1
loop-begin-preserved-then-end-begin-gt1 t c =
    IsPermutation-trans _ _ _ c.loop-begin.invariant
    (flat_map_part numbers_of c.loop-begin.begin (c.end_of_equal-end.result - c.loop-begin.begin) c.loop-begin.stretches c.sort_parts.new.stretches c.sort_parts.ensures)
