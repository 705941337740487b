use Rattle.std.proofs.Common.{◌≡◌, take}
use Rattle.drawing_omissions.specs.Open.{named}
use Rattle.drawing_omissions.proofs.named.named.Given as goal

abbrev pub invariant-loop-case : goal.invariant-loop-case
invariant-loop-case l = l.nets.keys ≡ named (take l.case-index l.cases)
