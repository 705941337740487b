-- The levels of the grammar of expressions, from an operand to a whole condition, and how each is
-- made of others, whatever is said of the tokens of an expression at each of them.
use Rattle.std.proofs.Common.{◌≡◌, ℕ, suc, List, [], ◌∷◌, ◌++◌}
use Rattle.std.specs.Prelude.{max, ℤ}
use Rattle.std.specs.Fmt.{signed_decimal}
use Rattle.scald_lex.specs.declared.token.TokenKind.TheVariants as kind
use Rattle.drawing_tree.specs.declared.expr.Op.{Op}
use Rattle.drawing_tree.specs.declared.expr.Op.TheVariants as op
use Rattle.drawing_tree.specs.Expression.{Expression}
use Rattle.drawing_tree.specs.Expression as e
use Rattle.drawing_tree.specs.WellFormed.{IsFreeWord}
use Rattle.drawing_grammar.proofs.Cutting.{Bare}
use Rattle.drawing_grammar.proofs.CanonicalTokens.{word, symbol, minus, open_parenthesis, close_parenthesis, equals, exclamation, less, greater}

pub record Levels : Type 1 where
  pub AsUnary : Expression → List Bare → ℕ → Type 0
  pub AsProduct : Expression → List Bare → ℕ → Type 0
  pub AsSum : Expression → List Bare → ℕ → Type 0
  pub AsWhole : Expression → List Bare → ℕ → Type 0
  pub AsCompared : Op → Expression → List Bare → ℕ → Type 0
  pub product_of_unary : (x : Expression) (bs : List Bare) (deep : ℕ) → AsUnary x bs deep →
      AsProduct x bs deep
  pub sum_of_product : (x : Expression) (bs : List Bare) (deep : ℕ) → AsProduct x bs deep →
      AsSum x bs deep
  pub whole_of_sum : (x : Expression) (bs : List Bare) (deep : ℕ) → AsSum x bs deep →
      AsWhole x bs deep
  pub unary_of_whole : (x : Expression) (bs : List Bare) (deep : ℕ) → AsWhole x bs deep →
      AsUnary x (open_parenthesis ++ bs ++ close_parenthesis) (suc deep)
  pub number_unary : (k : ℤ) (bs : List Bare) → bs ≡ (record {
    kind = kind.Number k;
    text =
        signed_decimal k;
  }) ∷ [] → AsUnary (e.Number k) bs 0
  pub word_unary : (text : List ℕ) → IsFreeWord text → AsUnary (e.Param text) (word text) 0
  pub minus_unary : (x : Expression) (bs : List Bare) (deep : ℕ) → AsUnary x bs deep →
      AsUnary (e.Negate x) (minus ++ bs) (suc deep)
  pub product_times : (a b : Expression) (front back : List Bare) (deep more : ℕ) →
      AsProduct a front deep → AsUnary b back more → AsProduct (e.Binary op.Mul a b)
      (front ++ symbol 42 ++ back) (max deep more)
  pub product_divided : (a b : Expression) (front back : List Bare) (deep more : ℕ) →
      AsProduct a front deep → AsUnary b back more → AsProduct (e.Binary op.Div a b)
      (front ++ symbol 47 ++ back) (max deep more)
  pub sum_plus : (a b : Expression) (front back : List Bare) (deep more : ℕ) → AsSum a front deep →
      AsProduct b back more → AsSum (e.Binary op.Add a b) (front ++ symbol 43 ++ back)
      (max deep more)
  pub sum_less : (a b : Expression) (front back : List Bare) (deep more : ℕ) → AsSum a front deep →
      AsProduct b back more → AsSum (e.Binary op.Sub a b) (front ++ minus ++ back) (max deep more)
  pub whole_compared : (o : Op) (a b : Expression) (front back : List Bare) (deep more : ℕ) →
      AsSum a front deep → AsCompared o b back more → AsWhole (e.Binary o a b) (front ++ back)
      (max deep more)
  pub compared_equal : (b : Expression) (bs : List Bare) (more : ℕ) → AsSum b bs more →
      AsCompared op.Eq b (equals ++ bs) more
  pub compared_unequal : (b : Expression) (bs : List Bare) (more : ℕ) → AsSum b bs more →
      AsCompared op.Ne b ((exclamation ++ equals) ++ bs) more
  pub compared_below : (b : Expression) (bs : List Bare) (more : ℕ) → AsSum b bs more →
      AsCompared op.Lt b (less ++ bs) more
  pub compared_above : (b : Expression) (bs : List Bare) (more : ℕ) → AsSum b bs more →
      AsCompared op.Gt b (greater ++ bs) more
  pub compared_at_most : (b : Expression) (bs : List Bare) (more : ℕ) → AsSum b bs more →
      AsCompared op.Le b ((less ++ equals) ++ bs) more
  pub compared_at_least : (b : Expression) (bs : List Bare) (more : ℕ) → AsSum b bs more →
      AsCompared op.Ge b ((greater ++ equals) ++ bs) more
