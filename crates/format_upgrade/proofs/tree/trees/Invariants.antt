use Rattle.std.proofs.Common.{◌≡◌, map, take}
use Rattle.format_upgrade.proofs.tree.trees.Given as goal

abbrev pub invariant-loop-item : goal.invariant-loop-item
invariant-loop-item g l = map g.T.Tree.shape l.copies ≡ map g.T.Tree.shape (take l.item-index l.items)
