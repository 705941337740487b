use Rattle.std.proofs.Common.{◌≡◌, map, take}
use Rattle.drawing_tree.specs.Tree.{macro_of}
use Rattle.format_upgrade.specs.Order.{in_order_macro}
use Rattle.format_upgrade.proofs.turned.macros.Given as goal

abbrev pub invariant-loop-definition : goal.invariant-loop-definition
invariant-loop-definition l =
    map macro_of l.copies ≡ map (λ m. in_order_macro l.order (macro_of m)) (take l.definition-index l.definitions)
