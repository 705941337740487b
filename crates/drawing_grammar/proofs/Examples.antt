-- How deep canonical expressions nest: each kind of operand, and texts at the limit and one level
-- beyond it.
use Rattle.std.proofs.Common.{◌≡◌, ℕ, zero, suc, Bool, true, false, List, [], ◌∷◌, map, nat_le, refl, arith}
use Rattle.std.specs.Prelude.{codes}
use Rattle.drawing_tree.specs.declared.expr.Op.TheVariants.{Add, Sub, Mul, Div, Eq, Lt}
use Rattle.drawing_tree.specs.Expression.{Expression, Param, Negate, Binary}
use Rattle.drawing_grammar.specs.CanonicalDraws.{IsShallow, IsShallowTest}
use Rattle.drawing_grammar.specs.Lexeme.{Lexeme, word_terminal, symbol_terminal}
use Rattle.drawing_grammar.specs.Grammar.{Need, fresh, group, Sum, Expr}
use Rattle.drawing_grammar.specs.Machine.{Verdict, Complete, Refused, verdict}
use Rattle.drawing_grammar.specs.Nesting.{nesting, sum_nesting, operators}
use Rattle.drawing_grammar.specs.Written.{limit}
use Rattle.drawing_grammar.proofs.Cutting.{Bare}
use Rattle.drawing_grammar.proofs.CanonicalTokens.{condition_tokens, sum_tokens}

abbrev a : Expression
a = Param (codes "A")

abbrev sum : Expression
sum = Binary Add a a

abbrev product : Expression
product = Binary Mul a a

abbrev comparison : Expression
comparison = Binary Eq a a

-- ---- how deep they nest

-- A minus is open, and another parenthesis if its operand stands in one: -A, -(-A), -(A + A),
-- -(A * A), -(A = A)
minuses : map nesting (Negate a ∷ Negate (Negate a) ∷ Negate sum ∷ Negate product ∷ Negate
    comparison ∷ []) ≡ 1 ∷ 3 ∷ 2 ∷ 2 ∷ 2 ∷ []
unfolding nesting
minuses = refl

-- A + A + A, A + (A + A), A + A * A, A * (A * A), A / A * A, (A + A) * A
operands : map nesting (Binary Add sum a ∷ Binary Add a sum ∷ Binary Add a product ∷ Binary Mul a
    product ∷ Binary Mul (Binary Div a a) a ∷ Binary Mul sum a ∷ []) ≡ 0 ∷ 1 ∷ 0 ∷ 1 ∷ 0 ∷ 1 ∷ []
unfolding nesting
operands = refl

-- A = A + A, A + A = A, (A = A) = A, A = (A = A), (A = A) + A, and the deeper of two operands: -A -
-- -(-A)
comparisons : map nesting (Binary Eq a sum ∷ Binary Eq sum a ∷ Binary Eq comparison a ∷ Binary Eq a
    comparison ∷ Binary Add comparison a ∷ Binary Sub (Negate a) (Negate (Negate a)) ∷ [])
    ≡ 0 ∷ 0 ∷ 1 ∷ 1 ∷ 1 ∷ 3 ∷ []
unfolding nesting
comparisons = refl

-- A comparison stands in parentheses but as a whole condition.
conditions : nesting comparison ∷ sum_nesting comparison ∷ sum_nesting sum ∷ [] ≡ 0 ∷ 1 ∷ 0 ∷ []
unfolding nesting
conditions = refl

-- Parentheses and minus signs are no operators, and each operator between two operands is one.
counted : map operators (a ∷ Negate sum ∷ Binary Mul sum (Binary Lt a product) ∷ [])
    ≡ 0 ∷ 1 ∷ 4 ∷ []
unfolding operators
counted = refl

-- ---- texts at the limit

abbrev lexeme : Bare → Lexeme
lexeme b = record { kind = b.kind; text = b.text; place = record { line = 1; col = 1 } }

abbrev is_read : {needs : List Need} → Verdict needs → Bool
is_read (Complete v) = true
is_read (Refused r) = false

-- whether the canonical text of an expression is within the limits of a text: as a bound, and as a
-- condition
abbrev bound_is_read : Expression → Bool
bound_is_read x = is_read (verdict (map lexeme (sum_tokens x)) (fresh ∷ group Sum 0 ∷ []) 0)

abbrev condition_is_read : Expression → Bool
condition_is_read x = is_read (verdict (map lexeme (condition_tokens x)) (fresh ∷ group Expr 0 ∷ [])
    0)

abbrev negated : ℕ → Expression → Expression
negated zero x = x
negated (suc n) x = Negate (negated n x)

-- so many open at once, as a bound and as a condition, and what is read of both
pub record IsAt (x : Expression) (bound condition : ℕ) : Type 0 where
  pub bound_nests : sum_nesting x ≡ bound
  pub condition_nests : nesting x ≡ condition
  pub bound_read : bound_is_read x ≡ nat_le bound limit
  pub condition_read : condition_is_read x ≡ nat_le condition limit

minus_63 : IsAt (negated 32 a) 63 63
unfolding nesting condition_tokens verdict word_terminal symbol_terminal
minus_63 = record {
  bound_nests = refl;
  condition_nests = refl;
  bound_read = refl;
  condition_read =
      refl;
}

minus_65 : IsAt (negated 33 a) 65 65
unfolding nesting condition_tokens verdict word_terminal symbol_terminal
minus_65 = record {
  bound_nests = refl;
  condition_nests = refl;
  bound_read = refl;
  condition_read =
      refl;
}

sum_64 : IsAt (negated 32 sum) 64 64
unfolding nesting condition_tokens verdict word_terminal symbol_terminal
sum_64 = record {
  bound_nests = refl;
  condition_nests = refl;
  bound_read = refl;
  condition_read =
      refl;
}

product_64 : IsAt (negated 32 product) 64 64
unfolding nesting condition_tokens verdict word_terminal symbol_terminal
product_64 = record {
  bound_nests = refl;
  condition_nests = refl;
  bound_read = refl;
  condition_read = refl;
}

sum_behind_65 : IsAt (negated 32 (Binary Sub a sum)) 65 65
unfolding nesting condition_tokens verdict word_terminal symbol_terminal
sum_behind_65 = record {
  bound_nests = refl;
  condition_nests = refl;
  bound_read = refl;
  condition_read = refl;
}

product_behind_65 : IsAt (negated 32 (Binary Div a product)) 65 65
unfolding nesting condition_tokens verdict word_terminal symbol_terminal
product_behind_65 = record {
  bound_nests = refl;
  condition_nests = refl;
  bound_read = refl;
  condition_read = refl;
}

comparison_behind_65 : IsAt (negated 32 (Binary Lt a comparison)) 65 65
unfolding nesting condition_tokens verdict word_terminal symbol_terminal
comparison_behind_65 = record {
  bound_nests = refl;
  condition_nests = refl;
  bound_read = refl;
  condition_read = refl;
}

-- The parentheses around a comparison count, but there are none around a whole condition.
comparison_65 : IsAt (Binary Eq (negated 32 sum) a) 65 64
unfolding nesting condition_tokens verdict word_terminal symbol_terminal
comparison_65 = record {
  bound_nests = refl;
  condition_nests = refl;
  bound_read = refl;
  condition_read = refl;
}

-- Both may be so deep, and no deeper.
shallow_64 : IsShallow (negated 32 sum)
unfolding nesting
shallow_64 = omega arith

deep_65 : IsShallow (negated 33 a) → ⊥
unfolding nesting
deep_65 h = omega arith

shallow_condition : IsShallowTest (Binary Eq (negated 32 sum) a)
unfolding nesting
shallow_condition = omega arith

deep_condition : IsShallowTest (negated 33 a) → ⊥
unfolding nesting
deep_condition h = omega arith

-- the same bound in parentheses
deep_comparison : IsShallow (Binary Eq (negated 32 sum) a) → ⊥
unfolding nesting
deep_comparison h = omega arith
