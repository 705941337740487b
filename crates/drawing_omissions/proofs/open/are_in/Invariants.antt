use Rattle.std.proofs.Common.{◌≡◌, true, take}
use Rattle.drawing_omissions.specs.Same.{are_in}
use Rattle.drawing_omissions.proofs.open.are_in.Given as goal

abbrev pub invariant-loop-value : goal.invariant-loop-value
invariant-loop-value l = are_in l.bits (take l.value-index l.values) ≡ true
