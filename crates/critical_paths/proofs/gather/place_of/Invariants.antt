use Rattle.std.proofs.Common.{◌≡◌, ℕ, ◌<◌, false, Some}
use Rattle.std.specs.Prelude.{slice_get}
use Rattle.std.specs.Ordering.{int_eq}
use Rattle.critical_paths.specs.declared.gather.Reached.{Reached}
use Rattle.critical_paths.proofs.gather.place_of.Given as goal

-- none so far
abbrev pub invariant-loop-at : goal.invariant-loop-at
invariant-loop-at l =
    (k : ℕ) → k < l.at → (a : Reached) → slice_get l.some k ≡ Some a →
    int_eq a.near.ideal l.reached.near.ideal ≡ false
