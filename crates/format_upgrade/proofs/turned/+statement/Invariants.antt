use Rattle.std.proofs.Common.{◌≡◌, map, take}
use Rattle.drawing_tree.specs.Tree.{statement_of}
use Rattle.format_upgrade.specs.Order.{in_order_statement}
use Rattle.format_upgrade.proofs.turned.+statement.Given as goal

abbrev pub invariant-statements-body : goal.invariant-statements-body
invariant-statements-body l =
    map statement_of l.copies.items ≡ map (λ s. in_order_statement l.order (statement_of s)) (take l.one-index l.body)
