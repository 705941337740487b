use Rattle.std.proofs.Common.{◌≡◌, ◌<◌, ℕ, drop, slice_index_or}
use Rattle.flat_circuit.specs.Instances.{most_bits}
use Rattle.flat_circuit.specs.Alike.{value_after, value_in}
use Rattle.flat_circuit.specs.Table.{said}
use Rattle.flat_circuit.proofs.case_values.say_all.Given as goal

abbrev pub invariant-loop-value : goal.invariant-loop-value
invariant-loop-value l =
    (i : ℕ) → i < most_bits → value_after (said (slice_index_or l.table i 0)) (drop l.value-index l.case) i ≡ value_in l.case i
