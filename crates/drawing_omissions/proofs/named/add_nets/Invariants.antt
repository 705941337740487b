use Rattle.std.proofs.Common.{◌≡◌, take}
use Rattle.drawing_omissions.specs.Open.{and_nets}
use Rattle.drawing_omissions.proofs.named.add_nets.Given as goal

abbrev pub invariant-loop-value : goal.invariant-loop-value
invariant-loop-value l = l.nets.keys ≡ and_nets l.fn.nets.keys (take l.value-index l.values)
