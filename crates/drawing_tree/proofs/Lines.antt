-- The lines of statements, one after another.
use Rattle.std.proofs.Common.{◌≡◌, ℕ, ◌+◌, ◌<◌, List, [], ◌∷◌, ◌++◌, length, take, get_or, sym, ap, ◌∙◌, append_assoc}
use Rattle.std.proofs.lemmas.List.{append-nil, take_more}
use Rattle.drawing_tree.specs.declared.statement.Stmt.{Stmt}
use Rattle.drawing_tree.specs.Tree.{statement_of, statements_of}
use Rattle.drawing_tree.specs.Canonical.{statement_lines, statements_lines}

pub lines_more : (margin : List ℕ) (ss : List Stmt) (s : Stmt) →
    statements_lines margin (statements_of (ss ++ s ∷ [])) ≡ statements_lines margin (statements_of ss) ++ statement_lines margin (statement_of s)
unfolding statements_lines
lines_more margin [] s = append-nil (statement_lines margin (statement_of s))
lines_more margin (x ∷ ss) s =
    ap (λ t. statement_lines margin (statement_of x) ++ t) (lines_more margin ss s)
    ∙ sym (append_assoc (statement_lines margin (statement_of x)) (statements_lines margin (statements_of ss)) (statement_lines margin (statement_of s)))

pub lines_take : (margin : List ℕ) (ss : List Stmt) (i : ℕ) (s : Stmt) → i < length ss → s ≡ get_or ss i s → statements_lines margin
    (statements_of (take (i + 1) ss)) ≡ statements_lines margin (statements_of (take i ss)) ++ statement_lines margin (statement_of s)
lines_take margin ss i s h e =
    ap (λ t. statements_lines margin (statements_of t)) (take_more ss i s h)
    ∙ (lines_more margin (take i ss) (get_or ss i s)
    ∙ ap (λ t. statements_lines margin (statements_of (take i ss)) ++ statement_lines margin (statement_of t)) (sym e))
