-- Statements with their selects as they stand, or in the other order.
use Rattle.std.specs.Prelude.{ℕ, List, map}
use Rattle.drawing_tree.specs.Tree.{Connection, UseStatement, Statement, Statements, Macro, Drawing}
use Rattle.format_upgrade.specs.declared.turned.Order.{Order}
use Rattle.format_upgrade.specs.declared.turned.Order.TheVariants.{Kept, Reversed}
use Rattle.format_upgrade.specs.Upgraded.{turned_ins, turned_use, turned_statement, turned_statements, turned_macro}

abbrev pub in_order_ins : Order → List ℕ → List Connection → List Connection
in_order_ins Kept kind ins = ins
in_order_ins Reversed kind ins = turned_ins kind ins

abbrev pub in_order_use : Order → UseStatement → UseStatement
in_order_use Kept u = u
in_order_use Reversed u = turned_use u

abbrev pub in_order_statement : Order → Statement → Statement
in_order_statement Kept s = s
in_order_statement Reversed s = turned_statement s

abbrev pub in_order_statements : Order → Statements → Statements
in_order_statements Kept ss = ss
in_order_statements Reversed ss = turned_statements ss

abbrev pub in_order_macro : Order → Macro → Macro
in_order_macro Kept m = m
in_order_macro Reversed m = turned_macro m

-- the drawing as one of this version
abbrev pub in_order_drawing : ℕ → Order → Drawing → Drawing
in_order_drawing version o d = record d {
  version = version;
  macros = map (in_order_macro o) d.macros;
  body = in_order_statements o d.body;
}
