-- The phrase of a comparison: two sums with an operator between them.
use Rattle.std.proofs.Common.{◌≡◌, ℕ, suc, ◌+◌, ◌≤◌, false, List, ◌∷◌, ◌++◌, refl, ap, subst, ◌∙◌, arith}
use Rattle.std.specs.Prelude.{max}
use Rattle.drawing_tree.specs.declared.expr.Op.{Op}
use Rattle.drawing_tree.specs.declared.expr.Op.TheVariants as op
use Rattle.drawing_tree.specs.Expression.{Expression}
use Rattle.drawing_tree.specs.Expression as e
use Rattle.drawing_grammar.specs.Nesting.{operators}
use Rattle.drawing_grammar.specs.declared.terminal.Terminal.TheVariants.{Equals}
use Rattle.drawing_grammar.specs.Lexeme.{Lexeme, terminal, symbol_terminal}
use Rattle.drawing_grammar.specs.Grammar.{Need, part, group, Comparison, Sum}
use Rattle.drawing_grammar.specs.Grammar as g
use Rattle.drawing_grammar.specs.Sketch.{Values}
use Rattle.drawing_grammar.specs.Written.{Written, marked, chosen, left_out, grouped, spelling, values, limit}
use Rattle.drawing_grammar.proofs.Cutting.{Bare}
use Rattle.drawing_grammar.proofs.CanonicalTokens.{equals, exclamation, less, greater}
use Rattle.drawing_grammar.proofs.Matching.{Are, parts, single, terminal_is}
use Rattle.drawing_grammar.proofs.PhraseSteps.{Fits, bare_symbol, spelled_one, spelled_pair, spelled_two}
use Rattle.drawing_grammar.proofs.PhraseExpression.{AsSum, AsWhole}

-- an operator and its right operand
pub record ComparedBuilt (n : ℕ) (o : Op) (x : Expression) (count deep : ℕ) (ts : List Lexeme) (rest : List Need) (w : Written rest) : Type 0 where
  pub written : Written (part Comparison n ∷ rest)
  pub spelled : spelling written ≡ ts ++ spelling w
  pub stands : (left : Expression) → (values written).0 left ≡ e.Binary o left x
  pub others : (values written).1 ≡ values w
  pub fits : (a : ℕ) → n + deep ≤ limit → suc a + count ≤ limit → Fits w (suc a + count) → Fits written a

abbrev pub AsCompared : Op → Expression → List Bare → ℕ → Type 0
AsCompared o x back deep = (n : ℕ) (ts : List Lexeme) → Are ts back → (rest : List Need) (w : Written rest) → ComparedBuilt n o x (operators x) deep ts rest w

pub whole_compared : (o : Op) (a b : Expression) (front back : List Bare) (deep more : ℕ) → AsSum a front deep → AsCompared o b back more → AsWhole (e.Binary o a b) (front ++ back) (max deep more)
unfolding operators
whole_compared o a b front back deep more left right n ts are rest w =
    let two = parts ts front back are in
    let r = right n two.second two.back rest w in
    let l = left n two.first two.front (part Comparison n ∷ rest) (left_out (λ left. left) refl r.written) in
    let v = values l.written in
    record {
      written = l.written;
      spelled = l.spelled ∙ (ap (λ (us : List Lexeme). two.first ++ us) r.spelled ∙ spelled_two ts two.first two.second (spelling w) two.whole);
      stands = ap (λ (u : Values (part Comparison n ∷ rest)). u.0 (v.1.1.0 (v.1.0 v.0))) l.others ∙ (ap (λ (y : Expression). (values r.written).0 y) l.stands ∙ r.stands a);
      others = ap (λ (u : Values (part Comparison n ∷ rest)). u.1) l.others ∙ r.others;
      fits = λ c h m f. l.fits c (omega arith) (omega arith) (r.fits (c + operators a) (omega arith) (omega arith) (subst (λ (d : ℕ). Fits w d) (omega arith) f));
    }

-- the right operand, as a group
record SumGroup (n : ℕ) (x : Expression) (count deep : ℕ) (ts : List Lexeme) (rest : List Need) (w : Written rest) : Type 0 where
  written : Written (group Sum n ∷ rest)
  spelled : spelling written ≡ ts ++ spelling w
  stands : (values written).0 ≡ x
  others : (values written).1 ≡ values w
  fits : (a : ℕ) → n + deep ≤ limit → a + count ≤ limit → Fits w (a + count) → Fits written a

sum_group : (x : Expression) (bs : List Bare) (deep : ℕ) → AsSum x bs deep → (n : ℕ) (ts : List Lexeme) → Are ts bs → (rest : List Need) (w : Written rest) → SumGroup n x (operators x) deep ts rest w
sum_group x bs deep s n ts are rest w =
    let b = s n ts are rest (left_out (λ left. left) refl w) in
    record { written = grouped b.written; spelled = b.spelled; stands = b.stands; others = b.others; fits = b.fits }

pub compared_equal : (b : Expression) (bs : List Bare) (more : ℕ) → AsSum b bs more → AsCompared op.Eq b (equals ++ bs) more
unfolding symbol_terminal
compared_equal b bs more right n ts are rest w =
    let two = parts ts equals bs are in
    let t = single two.first (bare_symbol 61) two.front in
    let opens : terminal t.token ≡ g.opening g.equal = terminal_is t.token (bare_symbol 61) t.is in
    let r = sum_group b bs more right n two.second two.back rest w in
    record {
      written = chosen g.equal t.token opens r.written;
      spelled = ap (λ (us : List Lexeme). t.token ∷ us) r.spelled ∙ spelled_one ts two.first two.second t.token (spelling w) two.whole t.whole;
      stands = λ left. ap (λ (y : Expression). e.Binary op.Eq left y) r.stands;
      others = r.others;
      fits = λ a h m f. (omega arith, r.fits (suc a) h m f);
    }

pub compared_unequal : (b : Expression) (bs : List Bare) (more : ℕ) → AsSum b bs more → AsCompared op.Ne b ((exclamation ++ equals) ++ bs) more
unfolding symbol_terminal
compared_unequal b bs more right n ts are rest w =
    let two = parts ts (exclamation ++ equals) bs are in
    let one = parts two.first exclamation equals two.front in
    let t = single one.first (bare_symbol 33) one.front in
    let u = single one.second (bare_symbol 61) one.back in
    let opens : terminal t.token ≡ g.opening g.unequal = terminal_is t.token (bare_symbol 33) t.is in
    let next : terminal u.token ≡ Equals = terminal_is u.token (bare_symbol 61) u.is in
    let r = sum_group b bs more right n two.second two.back rest w in
    record {
      written = chosen g.unequal t.token opens (marked u.token next r.written);
      spelled = ap (λ (us : List Lexeme). t.token ∷ u.token ∷ us) r.spelled
          ∙ spelled_pair ts one.first one.second two.first two.second t.token u.token (spelling w) two.whole one.whole t.whole u.whole;
      stands = λ left. ap (λ (y : Expression). e.Binary op.Ne left y) r.stands;
      others = r.others;
      fits = λ a h m f. (omega arith, (omega arith, r.fits (suc a) h m f));
    }

pub compared_below : (b : Expression) (bs : List Bare) (more : ℕ) → AsSum b bs more → AsCompared op.Lt b (less ++ bs) more
unfolding symbol_terminal
compared_below b bs more right n ts are rest w =
    let two = parts ts less bs are in
    let t = single two.first (bare_symbol 60) two.front in
    let opens : terminal t.token ≡ g.opening g.below = terminal_is t.token (bare_symbol 60) t.is in
    let r = sum_group b bs more right n two.second two.back rest w in
    record {
      written = chosen g.below t.token opens (left_out false refl r.written);
      spelled = ap (λ (us : List Lexeme). t.token ∷ us) r.spelled ∙ spelled_one ts two.first two.second t.token (spelling w) two.whole t.whole;
      stands = λ left. ap (λ (y : Expression). e.Binary op.Lt left y) r.stands;
      others = r.others;
      fits = λ a h m f. (omega arith, r.fits (suc a) h m f);
    }

pub compared_above : (b : Expression) (bs : List Bare) (more : ℕ) → AsSum b bs more → AsCompared op.Gt b (greater ++ bs) more
unfolding symbol_terminal
compared_above b bs more right n ts are rest w =
    let two = parts ts greater bs are in
    let t = single two.first (bare_symbol 62) two.front in
    let opens : terminal t.token ≡ g.opening g.above = terminal_is t.token (bare_symbol 62) t.is in
    let r = sum_group b bs more right n two.second two.back rest w in
    record {
      written = chosen g.above t.token opens (left_out false refl r.written);
      spelled = ap (λ (us : List Lexeme). t.token ∷ us) r.spelled ∙ spelled_one ts two.first two.second t.token (spelling w) two.whole t.whole;
      stands = λ left. ap (λ (y : Expression). e.Binary op.Gt left y) r.stands;
      others = r.others;
      fits = λ a h m f. (omega arith, r.fits (suc a) h m f);
    }

pub compared_at_most : (b : Expression) (bs : List Bare) (more : ℕ) → AsSum b bs more → AsCompared op.Le b ((less ++ equals) ++ bs) more
unfolding symbol_terminal
compared_at_most b bs more right n ts are rest w =
    let two = parts ts (less ++ equals) bs are in
    let one = parts two.first less equals two.front in
    let t = single one.first (bare_symbol 60) one.front in
    let u = single one.second (bare_symbol 61) one.back in
    let opens : terminal t.token ≡ g.opening g.below = terminal_is t.token (bare_symbol 60) t.is in
    let next : terminal u.token ≡ g.opening g.or_equal = terminal_is u.token (bare_symbol 61) u.is in
    let r = sum_group b bs more right n two.second two.back rest w in
    record {
      written = chosen g.below t.token opens (chosen g.or_equal u.token next r.written);
      spelled = ap (λ (us : List Lexeme). t.token ∷ u.token ∷ us) r.spelled
          ∙ spelled_pair ts one.first one.second two.first two.second t.token u.token (spelling w) two.whole one.whole t.whole u.whole;
      stands = λ left. ap (λ (y : Expression). e.Binary op.Le left y) r.stands;
      others = r.others;
      fits = λ a h m f. (omega arith, (omega arith, r.fits (suc a) h m f));
    }

pub compared_at_least : (b : Expression) (bs : List Bare) (more : ℕ) → AsSum b bs more → AsCompared op.Ge b ((greater ++ equals) ++ bs) more
unfolding symbol_terminal
compared_at_least b bs more right n ts are rest w =
    let two = parts ts (greater ++ equals) bs are in
    let one = parts two.first greater equals two.front in
    let t = single one.first (bare_symbol 62) one.front in
    let u = single one.second (bare_symbol 61) one.back in
    let opens : terminal t.token ≡ g.opening g.above = terminal_is t.token (bare_symbol 62) t.is in
    let next : terminal u.token ≡ g.opening g.or_equal = terminal_is u.token (bare_symbol 61) u.is in
    let r = sum_group b bs more right n two.second two.back rest w in
    record {
      written = chosen g.above t.token opens (chosen g.or_equal u.token next r.written);
      spelled = ap (λ (us : List Lexeme). t.token ∷ u.token ∷ us) r.spelled
          ∙ spelled_pair ts one.first one.second two.first two.second t.token u.token (spelling w) two.whole one.whole t.whole u.whole;
      stands = λ left. ap (λ (y : Expression). e.Binary op.Ge left y) r.stands;
      others = r.others;
      fits = λ a h m f. (omega arith, (omega arith, r.fits (suc a) h m f));
    }
