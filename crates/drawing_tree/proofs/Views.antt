-- The tree of each kind of statement.
use Rattle.std.proofs.Common.{◌≡◌, Option, Some, None, sym, ap, ◌∙◌}
use Rattle.std.specs.Global.{Vec}
use Rattle.scald_base.specs.declared.refusal.Place.{Place}
use Rattle.drawing_tree.specs.Expression.{expression_of}
use Rattle.drawing_tree.specs.declared.expr.Expr.{Expr}
use Rattle.drawing_tree.specs.declared.statement.UseStmt.{UseStmt}
use Rattle.drawing_tree.specs.declared.statement.WireStmt.{WireStmt}
use Rattle.drawing_tree.specs.declared.statement.IfStmt.{IfStmt}
use Rattle.drawing_tree.specs.declared.statement.ForStmt.{ForStmt}
use Rattle.drawing_tree.specs.declared.statement.Stmt.{Stmt}
use Rattle.drawing_tree.specs.declared.statement.Stmt.TheVariants as stmt
use Rattle.drawing_tree.specs.declared.statement.Stmt.TheVariants.{rolls-Use, rolls-Wire, rolls-If, rolls-For}
use Rattle.drawing_tree.specs.declared.statement.Stmt.TheOpen as layer
use Rattle.drawing_tree.specs.declared.statement.Stmt.TheFolds.{fold-roll-Stmt, fold-roll-IfStmt, fold-roll-ForStmt}
use Rattle.drawing_tree.specs.Tree.{Statement, Use, Wire, If, For, statement_layer, if_layer, for_layer, use_of, wire_of, statement_of, if_of, for_of, statements_of, else_of}

pub view_use : (u : UseStmt) → statement_of (stmt.Use u) ≡ Use (use_of u)
view_use u = ap statement_of (sym (rolls-Use u)) ∙ fold-roll-Stmt Statement Statement Statement statement_layer for_layer if_layer (layer.Use u)

pub view_wire : (w : WireStmt) → statement_of (stmt.Wire w) ≡ Wire (wire_of w)
view_wire w = ap statement_of (sym (rolls-Wire w)) ∙ fold-roll-Stmt Statement Statement Statement statement_layer for_layer if_layer (layer.Wire w)

pub view_if_parts : (test : Expr) (behind_then : Vec Stmt) (behind_else : Option (Vec Stmt)) (place : Place) → if_of (record {
  test = test;
  yes =
      behind_then;
  no = behind_else;
  place = place;
}) ≡ If (expression_of test) (statements_of behind_then.items) (else_of behind_else) place
view_if_parts test ss None place = fold-roll-IfStmt Statement Statement Statement statement_layer for_layer if_layer (record { test = test; yes = ss; no = None; place = place })
view_if_parts test ss (Some v) place = fold-roll-IfStmt Statement Statement Statement statement_layer for_layer if_layer (record { test = test; yes = ss; no = Some v; place = place })

pub view_if : (s : IfStmt) → if_of s ≡ If (expression_of s.test) (statements_of s.yes.items) (else_of s.no) s.place
view_if s = view_if_parts s.test s.yes s.no s.place

pub view_choice : (s : IfStmt) → statement_of (stmt.If s) ≡ if_of s
view_choice s = ap statement_of (sym (rolls-If s)) ∙ fold-roll-Stmt Statement Statement Statement statement_layer for_layer if_layer (layer.If s)

pub view_for : (s : ForStmt) → for_of s ≡ For s.var (expression_of s.first) (expression_of s.last) (statements_of s.body.items) s.place
view_for s = fold-roll-ForStmt Statement Statement Statement statement_layer for_layer if_layer (record {
  var = s.var;
  first = s.first;
  last = s.last;
  body = s.body;
  place = s.place;
})

pub view_repeated : (s : ForStmt) → statement_of (stmt.For s) ≡ for_of s
view_repeated s = ap statement_of (sym (rolls-For s)) ∙ fold-roll-Stmt Statement Statement Statement statement_layer for_layer if_layer (layer.For s)

-- the tree of a statement, by its kind
pub ruleset views = (view_use, view_wire, view_choice, view_repeated)
