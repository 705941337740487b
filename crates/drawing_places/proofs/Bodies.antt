-- What is written in a body, statement by statement.
use Rattle.std.proofs.Common.{◌≡◌, ℕ, suc, ◌+◌, ◌<◌, ◌≤◌, List, [], ◌∷◌, ◌++◌, length, get_or, drop, sym, ap, ◌∙◌, add-one, drop-cons, Option, Some, None}
use Rattle.std.specs.Global.{Vec}
use Rattle.std.proofs.lemmas.List.{append-nil, append_assoc, drop_all}
use Rattle.drawing_tree.specs.declared.statement.UseStmt.{UseStmt}
use Rattle.drawing_tree.specs.declared.statement.WireStmt.{WireStmt}
use Rattle.drawing_tree.specs.declared.statement.IfStmt.{IfStmt}
use Rattle.drawing_tree.specs.declared.statement.ForStmt.{ForStmt}
use Rattle.drawing_tree.specs.declared.statement.Stmt.{Stmt}
use Rattle.drawing_tree.specs.declared.statement.Stmt.TheVariants as stmt
use Rattle.drawing_tree.specs.Tree.{Statement, statement_of, statements_of, if_of, for_of, else_of}
use Rattle.drawing_tree.proofs.Views.{view_use, view_wire, view_choice, view_if, view_repeated, view_for}
use Rattle.drawing_places.specs.Body.{written_else, written_in, written_of}

-- ---- by the kind of a statement

pub of_use : (u : UseStmt) → written_in (statement_of (stmt.Use u)) ≡ statement_of (stmt.Use u) ∷ []
of_use u = ap written_in (view_use u) ∙ ap (λ (s : Statement). s ∷ []) (sym (view_use u))

pub of_wire : (w : WireStmt) → written_in (statement_of (stmt.Wire w)) ≡ statement_of (stmt.Wire w) ∷ []
of_wire w = ap written_in (view_wire w) ∙ ap (λ (s : Statement). s ∷ []) (sym (view_wire w))

pub of_choice : (s : IfStmt) → written_in (statement_of (stmt.If s)) ≡ written_in (if_of s)
of_choice s = ap written_in (view_choice s)

pub of_repeated : (s : ForStmt) → written_in (statement_of (stmt.For s)) ≡ written_in (for_of s)
of_repeated s = ap written_in (view_repeated s)

pub ruleset by_kind = (of_use, of_wire, of_choice, of_repeated)

pub of_for : (s : ForStmt) → written_in (for_of s) ≡ written_of (statements_of s.body.items)
of_for s = ap written_in (view_for s)

pub of_if : (s : IfStmt) → written_in (if_of s) ≡ written_of (statements_of s.yes.items) ++ written_else (else_of s.no)
of_if s = ap written_in (view_if s)

-- of an IF without ELSE, and of one with it
pub of_then : (s : IfStmt) → s.no ≡ None → written_in (if_of s) ≡ written_of (statements_of s.yes.items)
of_then s none =
    of_if s
    ∙ ap (λ (o : Option (Vec Stmt)). written_of (statements_of s.yes.items) ++ written_else (else_of o)) none
    ∙ append-nil (written_of (statements_of s.yes.items))

pub of_both : (s : IfStmt) (other : Vec Stmt) → s.no ≡ Some other →
    written_in (if_of s) ≡ written_of (statements_of s.yes.items) ++ written_of (statements_of other.items)
of_both s other some =
    of_if s ∙ ap (λ (o : Option (Vec Stmt)). written_of (statements_of s.yes.items) ++ written_else (else_of o)) some

-- ---- one after the other

pub next_written : (ss : List Stmt) (i : ℕ) (s : Stmt) → i < length ss → s ≡ get_or ss i s →
    written_of (statements_of (drop i ss)) ≡ written_in (statement_of s) ++ written_of (statements_of (drop (i + 1) ss))
next_written ss i s below is =
    ap (λ (xs : List Stmt). written_of (statements_of xs)) (drop-cons ss i s below)
    ∙ ap (λ (x : Stmt). written_in (statement_of x) ++ written_of (statements_of (drop (suc i) ss))) (sym is)
    ∙ ap (λ (n : ℕ). written_in (statement_of s) ++ written_of (statements_of (drop n ss))) (sym (add-one i))

pub none_written : (ss : List Stmt) (i : ℕ) → length ss ≤ i → written_of (statements_of (drop i ss)) ≡ []
none_written ss i past = ap (λ (xs : List Stmt). written_of (statements_of xs)) (drop_all i ss past)

-- what is added, and what is still to come
pub more_added : (all before now after here rest : List Statement) → now ++ before ≡ all → before ≡ here ++ rest → after ≡ now ++ here → after ++ rest ≡ all
more_added all before now after here rest so_far next added =
    ap (λ (xs : List Statement). xs ++ rest) added
    ∙ append_assoc now here rest
    ∙ ap (λ (xs : List Statement). now ++ xs) (sym next)
    ∙ so_far
