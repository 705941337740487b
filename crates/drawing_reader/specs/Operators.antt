-- What reading an operator says of the tokens: none stands there, or an operand is needed next.
use Rattle.std.specs.Prelude.{ℕ, List, ◌∷◌, Option, Some, None, Result, Ok, Err}
use Rattle.scald_base.specs.declared.refusal.Stop.{Stop}
use Rattle.drawing_tree.specs.declared.expr.Op.{Op}
use Rattle.drawing_reader.specs.declared.cursor.Cursor.{Cursor}
use Rattle.drawing_grammar.specs.Grammar.{Need, part, group, Unary, Factors, Terms, Comparison, Product, Sum}
use Rattle.drawing_grammar.specs.Sketch.{binary}
use Rattle.drawing_grammar.specs.Machine.{Moves, Fails}
use Rattle.drawing_reader.specs.Reader.{ahead}

abbrev pub FactorAt : Result (Option Op) Stop → Cursor → Cursor → Type 0
FactorAt (Ok None) old new = (n : ℕ) (rest : List Need) →
    Moves (ahead old (part Factors n ∷ rest)) (ahead new rest) (λ v. (λ left. left, v))
FactorAt (Ok (Some o)) old new = (n : ℕ) (rest : List Need) →
    Moves (ahead old (part Factors n ∷ rest))
    (ahead new (part Unary n ∷ part Factors n ∷ rest)) (λ (right, (more, v)).
    (λ left. more (binary o left right), v))
FactorAt (Err s) old new = (n : ℕ) (rest : List Need) → Fails (ahead old (part Factors n ∷ rest)) s

abbrev pub TermAt : Result (Option Op) Stop → Cursor → Cursor → Type 0
TermAt (Ok None) old new = (n : ℕ) (rest : List Need) →
    Moves (ahead old (part Terms n ∷ rest)) (ahead new rest) (λ v. (λ left. left, v))
TermAt (Ok (Some o)) old new = (n : ℕ) (rest : List Need) →
    Moves (ahead old (part Terms n ∷ rest))
    (ahead new (group Product n ∷ part Terms n ∷ rest)) (λ (right, (more, v)).
    (λ left. more (binary o left right), v))
TermAt (Err s) old new = (n : ℕ) (rest : List Need) → Fails (ahead old (part Terms n ∷ rest)) s

abbrev pub ComparisonAt : Result (Option Op) Stop → Cursor → Cursor → Type 0
ComparisonAt (Ok None) old new = (n : ℕ) (rest : List Need) →
    Moves (ahead old (part Comparison n ∷ rest)) (ahead new rest) (λ v. (λ left. left, v))
ComparisonAt (Ok (Some o)) old new = (n : ℕ) (rest : List Need) →
    Moves (ahead old (part Comparison n ∷ rest)) (ahead new (group Sum n ∷ rest)) (λ (right, v).
    (λ left. binary o left right, v))
ComparisonAt (Err s) old new =
    (n : ℕ) (rest : List Need) → Fails (ahead old (part Comparison n ∷ rest)) s
