use Rattle.std.proofs.Common.{◌≡◌, ◌++◌, take}
use Rattle.std.specs.List.{flat_map}
use Rattle.drawing_tree.proofs.printed.add_each.Given as goal

abbrev pub invariant-items : goal.invariant-items
invariant-items g l = l.out ≡ l.initial.out ++ flat_map g.T.Printed.text (take l.item-index l.items)
