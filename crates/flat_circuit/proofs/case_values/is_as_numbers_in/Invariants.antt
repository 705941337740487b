use Rattle.std.proofs.Common.{◌≡◌, ◌<◌, ℕ}
use Rattle.flat_circuit.specs.Alike.{class_of, value_in}
use Rattle.flat_circuit.proofs.case_values.is_as_numbers_in.Given as goal

abbrev pub invariant-loop-net : goal.invariant-loop-net
invariant-loop-net l = (i : ℕ) → i < l.net → value_in l.case i ≡ value_in l.case (class_of l.classes i)
