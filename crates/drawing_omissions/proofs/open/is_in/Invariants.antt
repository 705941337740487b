use Rattle.std.proofs.Common.{◌≡◌, false, take}
use Rattle.drawing_omissions.specs.Same.{is_in}
use Rattle.drawing_omissions.proofs.open.is_in.Given as goal

abbrev pub invariant-loop-bit : goal.invariant-loop-bit
invariant-loop-bit l = is_in (take l.bit-index l.bits) l.value ≡ false
