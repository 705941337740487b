use Rattle.std.proofs.Common.{◌≡◌, ℕ, All, Some, slice_get, take}
use Rattle.flat_circuit.proofs.stability.are_numbers_of_nets.Given as goal

abbrev pub invariant-loop-number : goal.invariant-loop-number
invariant-loop-number l = All (λ (number : ℕ). slice_get l.classes number ≡ Some number) (take l.number-index l.classes)
