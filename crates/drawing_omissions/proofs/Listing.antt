-- The FORs of statements, one after another.
use Rattle.std.proofs.Common.{◌≡◌, ℕ, ◌+◌, ◌<◌, List, ◌++◌, length, drop, get_or, refl, ap, sym, ◌∙◌}
use Rattle.std.proofs.lemmas.List.{append_assoc}
use Rattle.scald_base.specs.declared.refusal.Place.{Place}
use Rattle.drawing_tree.specs.declared.statement.Stmt.{Stmt}
use Rattle.drawing_tree.specs.declared.statement.IfStmt.{IfStmt}
use Rattle.drawing_tree.specs.declared.statement.ForStmt.{ForStmt}
use Rattle.drawing_tree.specs.Tree.{Statement, Statements, else_of, for_of, if_of, statement_of, statements_of}
use Rattle.drawing_tree.proofs.Views.{view_for, view_if}
use Rattle.drawing_omissions.specs.Fors.{fors_in, fors_in_all, fors_in_other}
use Rattle.drawing_omissions.proofs.Walking.{split}

pub fors_more : (all : List Stmt) (i : ℕ) (x : Stmt) → i < length all → x ≡ get_or all i x → (found new want : List Place) →
    found ++ fors_in_all (statements_of (drop i all)) ≡ want → new ≡ found ++ fors_in (statement_of x) →
    new ++ fors_in_all (statements_of (drop (i + 1) all)) ≡ want
fors_more all i x h is found new want so_far more =
    ap (λ (s : List Place). s ++ fors_in_all (statements_of (drop (i + 1) all))) more
    ∙ append_assoc found (fors_in (statement_of x)) (fors_in_all (statements_of (drop (i + 1) all)))
    ∙ ap (λ (ss : Statements). found ++ fors_in_all ss) (sym (split all i x h is)) ∙ so_far

pub if_fors : (choice : IfStmt) → fors_in (if_of choice) ≡ fors_in_all (statements_of choice.yes.items) ++ fors_in_other (else_of choice.no)
if_fors choice = ap fors_in (view_if choice)
