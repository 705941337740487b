use Rattle.std.proofs.Common.{◌≡◌, ◌++◌, take}
use Rattle.std.specs.List.{flat_map}
use Rattle.drawing_tree.proofs.printed.add_joined.Given as goal

abbrev pub invariant-more : goal.invariant-more
invariant-more g l = l.out ≡ l.initial.out ++ flat_map (λ x. l.between ++ g.T.Printed.text x) (take l.item-index l.more)
