-- Statements one after another, and one of each kind.
use Rattle.std.proofs.Common.{◌≡◌, ◌≢◌, ℕ, ◌+◌, ◌<◌, ℤ, pos, List, [], ◌++◌, length, drop, get_or, Ok, Err, refl, ap, sym, ◌∙◌, arith}
use Rattle.std.proofs.lemmas.List.{append_assoc}
use Rattle.scald_base.specs.declared.refusal.RefusalKind.{RefusalKind}
use Rattle.drawing_tree.specs.declared.statement.Stmt.{Stmt}
use Rattle.drawing_tree.specs.declared.statement.IfStmt.{IfStmt}
use Rattle.drawing_tree.specs.Tree.{Statement, Statements, cons, listed, else_of, if_of, statement_of, statements_of}
use Rattle.drawing_tree.proofs.Views.{view_if}
use Rattle.drawing_tree.specs.Expression.{expression_of}
use Rattle.macro_expander.specs.declared.library.Library.{Library}
use Rattle.macro_expander.specs.declared.scope.Scope as numbered_scope
use Rattle.macro_expander.specs.Terms.{valued}
use Rattle.macro_expander.specs.Library.{setting_in}
use Rattle.macro_expander.proofs.Gathered.{next_of}
use Rattle.drawing_omissions.specs.declared.spread.Finding.{Finding}
use Rattle.drawing_omissions.specs.Spreads.{if_chosen, in_otherwise, spreading_at}
use Rattle.drawing_omissions.specs.Walk.{in_all, in_one, seen}

-- ---- one after another

pub split : (all : List Stmt) (i : ℕ) (x : Stmt) → i < length all → x ≡ get_or all i x →
    statements_of (drop i all) ≡ cons (statement_of x) (statements_of (drop (i + 1) all))
split all i x h is = ap listed (next_of statement_of all i x h is)

module _ (l : Library) (levels : ℕ) (scope : numbered_scope.Scope) where
  pub one_more : (all : List Stmt) (i : ℕ) (x : Stmt) → i < length all → x ≡ get_or all i x →
      (found new want : List Finding) → found ++ in_all l levels (statements_of (drop i all)) scope ≡ want →
      new ≡ found ++ in_one l levels (statement_of x) scope →
      new ++ in_all l levels (statements_of (drop (i + 1) all)) scope ≡ want
  one_more all i x h is found new want so_far more =
      rw more (append_assoc found (in_one l levels (statement_of x) scope)
      (in_all l levels (statements_of (drop (i + 1) all)) scope))
      ∙ ap (λ (ss : Statements). found ++ in_all l levels ss scope) (sym (split all i x h is)) ∙ so_far

  -- ---- IF

  abbrev other : IfStmt → List Finding
  other choice = in_otherwise (setting_in l) (spreading_at (setting_in l) levels) (else_of choice.no) (seen scope)

  if_is : (choice : IfStmt) → in_one l levels (if_of choice) scope
      ≡ if_chosen (valued scope.env (expression_of choice.test)) (in_all l levels (statements_of choice.yes.items) scope) (other choice)
  if_is choice = ap (λ (s : Statement). in_one l levels s scope) (view_if choice)

  pub if_refused : (choice : IfStmt) (kind : RefusalKind) → Err kind ≡ valued scope.env (expression_of choice.test) →
      in_one l levels (if_of choice) scope ≡ []
  if_refused choice kind is = if_is choice ∙ rw (sym is) refl

  module _ (choice : IfStmt) (test : ℤ) (is : Ok test ≡ valued scope.env (expression_of choice.test)) where
    pub if_taken : test ≢ pos 0 → in_one l levels (if_of choice) scope ≡ in_all l levels (statements_of choice.yes.items) scope
    if_taken h = if_is choice ∙ rw (sym is) (by test h) where
      by : (v : ℤ) → v ≢ pos 0 → if_chosen (Ok v) (in_all l levels (statements_of choice.yes.items) scope) (other choice)
          ≡ in_all l levels (statements_of choice.yes.items) scope
      by v h = grind (arith)

    pub if_not : test ≡ pos 0 → in_one l levels (if_of choice) scope ≡ other choice
    if_not h = if_is choice ∙ rw (sym is, h) refl
