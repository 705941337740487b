use Rattle.std.proofs.Common.{◌≡◌, All, false, take}
use Rattle.narrowing.specs.Part.{same_thing}
use Rattle.narrowing.proofs.splits.is_unset.Given as goal

abbrev pub invariant-loop-other : goal.invariant-loop-other
invariant-loop-other l = All (λ q. same_thing l.part q ≡ false) (take l.other-index l.parts)
