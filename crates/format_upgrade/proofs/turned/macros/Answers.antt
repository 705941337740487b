use Rattle.std.proofs.Common.{arith}
use Rattle.drawing_tree.specs.Tree.{macro_of}
use Rattle.format_upgrade.specs.Order.{in_order_macro}
use Rattle.format_upgrade.proofs.Ordered.{copied_all}
use Rattle.format_upgrade.proofs.turned.macros.Goals as goal

pub returns : goal.returns
returns c =
    copied_all macro_of (in_order_macro c.args.order) macro_of c.loop-definition.copies c.args.definitions.now c.loop-definition.definition-index
    (omega (arith, c.loop-definition-test.false)) c.loop-definition.invariant
