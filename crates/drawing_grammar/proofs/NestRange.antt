-- Bounds and ranges of a canonical text that is read are shallow.
use Rattle.std.proofs.Common.{◌≡◌, List, ◌∷◌, ◌++◌, Option, Some, None, refl, subst, arith, append_assoc}
use Rattle.std.specs.Prelude.{IfSome}
use Rattle.drawing_tree.specs.Expression.{Expression}
use Rattle.drawing_tree.specs.Tree as tree
use Rattle.drawing_grammar.specs.declared.terminal.Terminal.TheVariants as token
use Rattle.drawing_grammar.specs.CanonicalDraws.{IsShallow, IsShallowRange}
use Rattle.drawing_grammar.specs.Lexeme.{symbol_terminal}
use Rattle.drawing_grammar.specs.Grammar.{Need, mark, item, keyword, fresh, part, group}
use Rattle.drawing_grammar.specs.Grammar as g
use Rattle.drawing_grammar.specs.Machine.{choice}
use Rattle.drawing_grammar.proofs.Cutting.{Bare}
use Rattle.drawing_grammar.proofs.CanonicalTokens.{colon, greater, sum_tokens, bounds_tokens, last_tokens, range_tokens}
use Rattle.drawing_grammar.proofs.Drawable.{IsDrawn, IsDrawnRange}
use Rattle.drawing_grammar.proofs.LeftOver.{LeftOver, first_of, take_mark, take_choice, pass_part, pass_fresh, into_group}
use Rattle.drawing_grammar.proofs.NestExpression.{pass_sum, unary_first}
use Rattle.drawing_grammar.proofs.NestForms.{forms}
use Rattle.drawing_grammar.proofs.PhraseSteps.{bare_symbol}

-- What was taken is so, and this is left over.
pub record Held (P : Type 0) (more : List Bare) (needs : List Need) : Type 0 where
  pub holds : P
  pub left : LeftOver more needs

-- grouped from the left, and to the right
pub shift : (a b more : List Bare) (needs : List Need) → LeftOver ((a ++ b) ++ more) needs →
    LeftOver (a ++ (b ++ more)) needs
shift a b more needs x = subst (λ (ts : List Bare). LeftOver ts needs) (append_assoc a b more) x

-- ---- expressions and ranges

pub bound : (x : Expression) → IsDrawn x → (more : List Bare) (rest : List Need) →
    choice g.Factors (first_of more) ≡ None → choice g.Terms (first_of more) ≡ None →
    LeftOver (sum_tokens x ++ more) (fresh ∷ group g.Sum 0 ∷ rest) → Held (IsShallow x) more rest
bound x is more rest factors terms b =
    let ts = sum_tokens x ++ more in
    let i = into_group g.Sum 0 ts rest refl (pass_fresh ts (group g.Sum 0 ∷ rest) b) in
    let r = (forms x is).sum.reads 0 (omega arith) more rest i in
    let nests = r.nests in
    record { holds = omega arith; left = pass_sum 0 more rest factors terms r.left }

-- An expression begins no range.
pub no_range_first : (x : Expression) → IsDrawn x → (more : List Bare) →
    choice g.Range (first_of (sum_tokens x ++ more)) ≡ None
no_range_first x is more = (unary_first (first_of (sum_tokens x ++ more))
    ((forms x is).sum.begins more)).1

-- a bound, a colon and another
pub bounds_held : (a b : Expression) → IsDrawn a → IsDrawn b →
    (more : List Bare) (rest : List Need) → choice g.Factors (first_of more) ≡ None →
    choice g.Terms (first_of more) ≡ None → LeftOver (bounds_tokens a b ++ more)
    (fresh ∷ group g.Sum 0 ∷ mark token.Colon ∷ fresh ∷ group g.Sum 0 ∷ rest) →
    Held (IsShallow a × IsShallow b) more rest
unfolding symbol_terminal
bounds_held a b p q more rest factors terms x =
    let needs : List Need = fresh ∷ group g.Sum 0 ∷ mark token.Colon ∷ fresh ∷ group g.Sum 0 ∷ rest in
    let y = shift (sum_tokens a) colon (sum_tokens b ++ more) needs
    (shift (sum_tokens a ++ colon) (sum_tokens b) more needs x) in
    let one = bound a p (bare_symbol 58 ∷ (sum_tokens b ++ more))
    (mark token.Colon ∷ fresh ∷ group g.Sum 0 ∷ rest) refl refl y in
    let two = bound b q more rest factors terms (take_mark (bare_symbol 58) (sum_tokens b ++ more)
    token.Colon (fresh ∷ group g.Sum 0 ∷ rest) refl one.left) in
    record { holds = (one.holds, two.holds); left = two.left }

last_factors : (last : Option Expression) (more : List Bare) →
    choice g.Factors (first_of (last_tokens last ++ (bare_symbol 62 ∷ more))) ≡ None
unfolding symbol_terminal
last_factors None more = refl
last_factors (Some x) more = refl

last_terms : (last : Option Expression) (more : List Bare) →
    choice g.Terms (first_of (last_tokens last ++ (bare_symbol 62 ∷ more))) ≡ None
unfolding symbol_terminal
last_terms None more = refl
last_terms (Some x) more = refl

last_held : (last : Option Expression) → IfSome last IsDrawn →
    (more : List Bare) (rest : List Need) → LeftOver (last_tokens last ++ (bare_symbol 62 ∷ more))
    (part g.RangeEnd 0 ∷ rest) → Held (IfSome last IsShallow) (bare_symbol 62 ∷ more) rest
unfolding symbol_terminal
last_held None is more rest b = record {
  holds = tt;
  left =
      pass_part g.RangeEnd 0 None (bare_symbol 62 ∷ more) rest refl refl b;
}
last_held (Some x) is more rest b =
    let o = take_choice g.last 0 (bare_symbol 58) (sum_tokens x ++ (bare_symbol 62 ∷ more)) rest
    refl b in
    let r = bound x is (bare_symbol 62 ∷ more) rest refl refl o.left in
    record { holds = r.holds; left = r.left }

pub range_held : (range : Option tree.Range) → IfSome range IsDrawnRange →
    (more : List Bare) (rest : List Need) → choice g.Range (first_of more) ≡ None →
    LeftOver (range_tokens range ++ more) (part g.Range 0 ∷ rest) →
    Held (IfSome range IsShallowRange) more rest
unfolding symbol_terminal
range_held None is more rest none b = record {
  holds = tt;
  left =
      pass_part g.Range 0 None more rest none refl b;
}
range_held (Some range) is more rest none b =
    let first = sum_tokens range.first in
    let last = last_tokens range.last in
    let o = take_choice g.range 0 (bare_symbol 60) (((first ++ last) ++ greater) ++ more) rest refl
    b in
    let needs : List Need = fresh ∷ group g.Sum 0 ∷ part g.RangeEnd 0 ∷ mark token.Greater ∷ rest in
    let x = shift first last (bare_symbol 62 ∷ more) needs
    (shift (first ++ last) greater more needs o.left) in
    let one = bound range.first is.first (last ++ (bare_symbol 62 ∷ more))
    (part g.RangeEnd 0 ∷ mark token.Greater ∷ rest) (last_factors range.last more)
    (last_terms range.last more) x in
    let two = last_held range.last is.last more (mark token.Greater ∷ rest) one.left in
    record {
      holds = record { first = one.holds; last = two.holds };
      left =
          take_mark (bare_symbol 62) more token.Greater rest refl two.left;
    }
