use Rattle.std.proofs.Common.{◌≡◌, false, take}
use Rattle.drawing_omissions.specs.Open.{is_covered}
use Rattle.drawing_omissions.proofs.open.is_covered.Given as goal

abbrev pub invariant-loop-case : goal.invariant-loop-case
invariant-loop-case l = is_covered (take l.case-index l.cases) l.bits ≡ false
