-- The phrase of a canonical expression: what the grammar writes with its tokens, wherever it stands, and what that stands for.
use Rattle.std.proofs.Common.{◌≡◌, ℕ, suc, ◌+◌, ◌≤◌, List, [], ◌∷◌, ◌++◌, refl, ap, subst, ◌∙◌, arith}
use Rattle.std.specs.Prelude.{max, ℤ}
use Rattle.std.specs.Fmt.{signed_decimal}
use Rattle.scald_lex.specs.declared.token.TokenKind.TheVariants as kind
use Rattle.drawing_tree.specs.declared.expr.Op.TheVariants as op
use Rattle.drawing_tree.specs.Expression.{Expression}
use Rattle.drawing_tree.specs.Expression as e
use Rattle.drawing_tree.specs.WellFormed.{IsFreeWord}
use Rattle.drawing_grammar.specs.Nesting.{operators}
use Rattle.drawing_grammar.specs.declared.terminal.Terminal.TheVariants.{CloseParenthesis}
use Rattle.drawing_grammar.specs.Lexeme.{Lexeme, terminal, symbol_terminal, kind_number}
use Rattle.drawing_grammar.specs.Grammar.{Need, mark, part, Unary, Factors, Terms, Comparison}
use Rattle.drawing_grammar.specs.Grammar as g
use Rattle.drawing_grammar.specs.Sketch.{Values}
use Rattle.drawing_grammar.specs.Written.{Written, marked, chosen, left_out, grouped, spelling, values, limit}
use Rattle.drawing_grammar.proofs.Cutting.{Bare}
use Rattle.drawing_grammar.proofs.Leaves as leaf
use Rattle.drawing_grammar.proofs.CanonicalTokens.{word, symbol, minus, open_parenthesis, close_parenthesis}
use Rattle.drawing_grammar.proofs.Matching.{Are, parts, single, terminal_is, word_is_free}
use Rattle.drawing_grammar.proofs.PhraseSteps.{Fits, bare_symbol, spelled_between, spelled_middle, spelled_one, spelled_single}

-- ---- what is built, at each level of the grammar

pub record UnaryBuilt (n : ℕ) (x : Expression) (count deep : ℕ) (ts : List Lexeme) (rest : List Need) (w : Written rest) : Type 0 where
  pub written : Written (part Unary n ∷ rest)
  pub spelled : spelling written ≡ ts ++ spelling w
  pub stands : (values written).0 ≡ x
  pub others : (values written).1 ≡ values w
  pub fits : (a : ℕ) → n + deep ≤ limit → a + count ≤ limit → Fits w (a + count) → Fits written a

pub record ProductBuilt (n : ℕ) (x : Expression) (count deep : ℕ) (ts : List Lexeme) (rest : List Need) (w : Written (part Factors n ∷ rest)) : Type 0 where
  pub written : Written (part Unary n ∷ part Factors n ∷ rest)
  pub spelled : spelling written ≡ ts ++ spelling w
  pub stands : (values written).1.0 (values written).0 ≡ (values w).0 x
  pub others : (values written).1.1 ≡ (values w).1
  pub fits : (a : ℕ) → n + deep ≤ limit → a + count ≤ limit → Fits w (a + count) → Fits written a

pub record SumBuilt (n : ℕ) (x : Expression) (count deep : ℕ) (ts : List Lexeme) (rest : List Need) (w : Written (part Terms n ∷ rest)) : Type 0 where
  pub written : Written (part Unary n ∷ part Factors n ∷ part Terms n ∷ rest)
  pub spelled : spelling written ≡ ts ++ spelling w
  pub stands : (values written).1.1.0 ((values written).1.0 (values written).0) ≡ (values w).0 x
  pub others : (values written).1.1.1 ≡ (values w).1
  pub fits : (a : ℕ) → n + deep ≤ limit → a + count ≤ limit → Fits w (a + count) → Fits written a

pub record WholeBuilt (n : ℕ) (x : Expression) (count deep : ℕ) (ts : List Lexeme) (rest : List Need) (w : Written rest) : Type 0 where
  pub written : Written (part Unary n ∷ part Factors n ∷ part Terms n ∷ part Comparison n ∷ rest)
  pub spelled : spelling written ≡ ts ++ spelling w
  pub stands : (values written).1.1.1.0 ((values written).1.1.0 ((values written).1.0 (values written).0)) ≡ x
  pub others : (values written).1.1.1.1 ≡ values w
  pub fits : (a : ℕ) → n + deep ≤ limit → a + count ≤ limit → Fits w (a + count) → Fits written a

abbrev pub AsUnary : Expression → List Bare → ℕ → Type 0
AsUnary x bs deep = (n : ℕ) (ts : List Lexeme) → Are ts bs → (rest : List Need) (w : Written rest) → UnaryBuilt n x (operators x) deep ts rest w

abbrev pub AsProduct : Expression → List Bare → ℕ → Type 0
AsProduct x bs deep = (n : ℕ) (ts : List Lexeme) → Are ts bs → (rest : List Need) (w : Written (part Factors n ∷ rest)) → ProductBuilt n x (operators x) deep ts rest w

abbrev pub AsSum : Expression → List Bare → ℕ → Type 0
AsSum x bs deep = (n : ℕ) (ts : List Lexeme) → Are ts bs → (rest : List Need) (w : Written (part Terms n ∷ rest)) → SumBuilt n x (operators x) deep ts rest w

abbrev pub AsWhole : Expression → List Bare → ℕ → Type 0
AsWhole x bs deep = (n : ℕ) (ts : List Lexeme) → Are ts bs → (rest : List Need) (w : Written rest) → WholeBuilt n x (operators x) deep ts rest w

-- ---- from level to level

pub product_of_unary : (x : Expression) (bs : List Bare) (deep : ℕ) → AsUnary x bs deep → AsProduct x bs deep
product_of_unary x bs deep u n ts are rest w =
    let b = u n ts are (part Factors n ∷ rest) w in
    record {
      written = b.written;
      spelled = b.spelled;
      stands = ap (λ (v : Values (part Factors n ∷ rest)). v.0 (values b.written).0) b.others ∙ ap (λ (y : Expression). (values w).0 y) b.stands;
      others = ap (λ (v : Values (part Factors n ∷ rest)). v.1) b.others;
      fits = b.fits;
    }

pub sum_of_product : (x : Expression) (bs : List Bare) (deep : ℕ) → AsProduct x bs deep → AsSum x bs deep
sum_of_product x bs deep p n ts are rest w =
    let b = p n ts are (part Terms n ∷ rest) (left_out (λ left. left) refl w) in
    let v = values b.written in
    record {
      written = b.written;
      spelled = b.spelled;
      stands = ap (λ (u : Values (part Terms n ∷ rest)). u.0 (v.1.0 v.0)) b.others ∙ ap (λ (y : Expression). (values w).0 y) b.stands;
      others = ap (λ (u : Values (part Terms n ∷ rest)). u.1) b.others;
      fits = b.fits;
    }

pub whole_of_sum : (x : Expression) (bs : List Bare) (deep : ℕ) → AsSum x bs deep → AsWhole x bs deep
whole_of_sum x bs deep s n ts are rest w =
    let b = s n ts are (part Comparison n ∷ rest) (left_out (λ left. left) refl (left_out (λ left. left) refl w)) in
    let v = values b.written in
    record {
      written = b.written;
      spelled = b.spelled;
      stands = ap (λ (u : Values (part Comparison n ∷ rest)). u.0 (v.1.1.0 (v.1.0 v.0))) b.others ∙ b.stands;
      others = ap (λ (u : Values (part Comparison n ∷ rest)). u.1) b.others;
      fits = b.fits;
    }

-- in parentheses
pub unary_of_whole : (x : Expression) (bs : List Bare) (deep : ℕ) → AsWhole x bs deep → AsUnary x (open_parenthesis ++ bs ++ close_parenthesis) (suc deep)
unfolding symbol_terminal
unary_of_whole x bs deep p n ts are rest w =
    let two = parts ts (open_parenthesis ++ bs) close_parenthesis are in
    let one = parts two.first open_parenthesis bs two.front in
    let begin = single one.first (bare_symbol 40) one.front in
    let last = single two.second (bare_symbol 41) two.back in
    let closes : terminal last.token ≡ CloseParenthesis = terminal_is last.token (bare_symbol 41) last.is in
    let b = p (suc n) one.second one.back (mark CloseParenthesis ∷ rest) (marked last.token closes w) in
    let opens : terminal begin.token ≡ g.opening g.bracketed = terminal_is begin.token (bare_symbol 40) begin.is in
    record {
      written = chosen g.bracketed begin.token opens (grouped b.written);
      spelled = ap (λ (us : List Lexeme). begin.token ∷ us) b.spelled ∙ spelled_between ts
          one.first one.second two.first two.second begin.token last.token (spelling w) two.whole one.whole begin.whole last.whole;
      stands = b.stands;
      others = b.others;
      fits = λ a h k f. (omega arith, b.fits a (omega arith) k (omega arith, f));
    }

-- ---- leaves, and a minus

pub number_unary : (k : ℤ) (bs : List Bare) → bs ≡ (record { kind = kind.Number k; text = signed_decimal k }) ∷ [] → AsUnary (e.Number k) bs 0
unfolding operators
number_unary k bs same n ts are rest w =
    let x : Bare = record { kind = kind.Number k; text = signed_decimal k } in
    let one = single ts x (are ∙ same) in
    let opens : terminal one.token ≡ g.opening g.number = terminal_is one.token x one.is in
    record {
      written = chosen g.number one.token opens w;
      spelled = spelled_single ts one.token (spelling w) one.whole;
      stands = ap (λ (b : Bare). e.Number (kind_number b.kind)) one.is;
      others = refl;
      fits = λ a h m f. (omega arith, subst (λ (c : ℕ). Fits w c) (omega arith) f);
    }

pub word_unary : (text : List ℕ) → IsFreeWord text → AsUnary (e.Param text) (word text) 0
unfolding operators
word_unary text is n ts are rest w =
    let one = single ts (leaf.word text) are in
    record {
      written = chosen g.parameter one.token (word_is_free one.token text one.is is) w;
      spelled = spelled_single ts one.token (spelling w) one.whole;
      stands = ap (λ (b : Bare). e.Param b.text) one.is;
      others = refl;
      fits = λ a h m f. (omega arith, subst (λ (c : ℕ). Fits w c) (omega arith) f);
    }

pub minus_unary : (x : Expression) (bs : List Bare) (deep : ℕ) → AsUnary x bs deep → AsUnary (e.Negate x) (minus ++ bs) (suc deep)
unfolding operators symbol_terminal
minus_unary x bs deep u n ts are rest w =
    let two = parts ts minus bs are in
    let one = single two.first (bare_symbol 45) two.front in
    let opens : terminal one.token ≡ g.opening g.negated = terminal_is one.token (bare_symbol 45) one.is in
    let b = u (suc n) two.second two.back rest w in
    record {
      written = chosen g.negated one.token opens b.written;
      spelled = ap (λ (us : List Lexeme). one.token ∷ us) b.spelled ∙ spelled_one ts two.first two.second one.token (spelling w) two.whole one.whole;
      stands = ap (λ (y : Expression). e.Negate y) b.stands;
      others = b.others;
      fits = λ a h m f. (omega arith, b.fits a (omega arith) m f);
    }

-- ---- products

pub product_times : (a b : Expression) (front back : List Bare) (deep more : ℕ) → AsProduct a front deep →
    AsUnary b back more → AsProduct (e.Binary op.Mul a b) (front ++ symbol 42 ++ back) (max deep more)
unfolding operators symbol_terminal
product_times a b front back deep more left right n ts are rest w =
    let two = parts ts (front ++ symbol 42) back are in
    let one = parts two.first front (symbol 42) two.front in
    let t = single one.second (bare_symbol 42) one.back in
    let opens : terminal t.token ≡ g.opening g.times = terminal_is t.token (bare_symbol 42) t.is in
    let r = right n two.second two.back (part Factors n ∷ rest) w in
    let middle : Written (part Factors n ∷ rest) = chosen g.times t.token opens r.written in
    let l = left n one.first one.front rest middle in
    let v = values r.written in
    record {
      written = l.written;
      spelled = l.spelled ∙ (ap (λ (us : List Lexeme). one.first ++ t.token ∷ us) r.spelled
          ∙ spelled_middle ts one.first two.first one.second two.second t.token (spelling w) two.whole one.whole t.whole);
      stands = l.stands ∙ (ap (λ (y : Expression). v.1.0 (e.Binary op.Mul a y)) r.stands ∙ ap (λ (u : Values (part Factors n ∷ rest)). u.0 (e.Binary op.Mul a b)) r.others);
      others = l.others ∙ ap (λ (u : Values (part Factors n ∷ rest)). u.1) r.others;
      fits = λ c h m f. l.fits c (omega arith) (omega arith) (omega arith, r.fits (suc (c + operators a)) (omega arith) (omega arith) (subst (λ (d : ℕ). Fits w d) (omega arith) f));
    }

pub product_divided : (a b : Expression) (front back : List Bare) (deep more : ℕ) → AsProduct a front deep →
    AsUnary b back more → AsProduct (e.Binary op.Div a b) (front ++ symbol 47 ++ back) (max deep more)
unfolding operators symbol_terminal
product_divided a b front back deep more left right n ts are rest w =
    let two = parts ts (front ++ symbol 47) back are in
    let one = parts two.first front (symbol 47) two.front in
    let t = single one.second (bare_symbol 47) one.back in
    let opens : terminal t.token ≡ g.opening g.divided = terminal_is t.token (bare_symbol 47) t.is in
    let r = right n two.second two.back (part Factors n ∷ rest) w in
    let middle : Written (part Factors n ∷ rest) = chosen g.divided t.token opens r.written in
    let l = left n one.first one.front rest middle in
    let v = values r.written in
    record {
      written = l.written;
      spelled = l.spelled ∙ (ap (λ (us : List Lexeme). one.first ++ t.token ∷ us) r.spelled
          ∙ spelled_middle ts one.first two.first one.second two.second t.token (spelling w) two.whole one.whole t.whole);
      stands = l.stands ∙ (ap (λ (y : Expression). v.1.0 (e.Binary op.Div a y)) r.stands ∙ ap (λ (u : Values (part Factors n ∷ rest)). u.0 (e.Binary op.Div a b)) r.others);
      others = l.others ∙ ap (λ (u : Values (part Factors n ∷ rest)). u.1) r.others;
      fits = λ c h m f. l.fits c (omega arith) (omega arith) (omega arith, r.fits (suc (c + operators a)) (omega arith) (omega arith) (subst (λ (d : ℕ). Fits w d) (omega arith) f));
    }

-- ---- sums

pub sum_plus : (a b : Expression) (front back : List Bare) (deep more : ℕ) → AsSum a front deep → AsProduct b back more → AsSum (e.Binary op.Add a b) (front ++ symbol 43 ++ back) (max deep more)
unfolding operators symbol_terminal
sum_plus a b front back deep more left right n ts are rest w =
    let two = parts ts (front ++ symbol 43) back are in
    let one = parts two.first front (symbol 43) two.front in
    let t = single one.second (bare_symbol 43) one.back in
    let opens : terminal t.token ≡ g.opening g.plus = terminal_is t.token (bare_symbol 43) t.is in
    let r = right n two.second two.back (part Terms n ∷ rest) (left_out (λ left. left) refl w) in
    let middle : Written (part Terms n ∷ rest) = chosen g.plus t.token opens (grouped r.written) in
    let l = left n one.first one.front rest middle in
    let v = values r.written in
    record {
      written = l.written;
      spelled = l.spelled ∙ (ap (λ (us : List Lexeme). one.first ++ t.token ∷ us) r.spelled
          ∙ spelled_middle ts one.first two.first one.second two.second t.token (spelling w) two.whole one.whole t.whole);
      stands = l.stands ∙ (ap (λ (y : Expression). v.1.1.0 (e.Binary op.Add a y)) r.stands ∙ ap (λ (u : Values (part Terms n ∷ rest)). u.0 (e.Binary op.Add a b)) r.others);
      others = l.others ∙ ap (λ (u : Values (part Terms n ∷ rest)). u.1) r.others;
      fits = λ c h m f. l.fits c (omega arith) (omega arith) (omega arith, r.fits (suc (c + operators a)) (omega arith) (omega arith) (subst (λ (d : ℕ). Fits w d) (omega arith) f));
    }

pub sum_less : (a b : Expression) (front back : List Bare) (deep more : ℕ) → AsSum a front deep → AsProduct b back more → AsSum (e.Binary op.Sub a b) (front ++ minus ++ back) (max deep more)
unfolding operators symbol_terminal
sum_less a b front back deep more left right n ts are rest w =
    let two = parts ts (front ++ minus) back are in
    let one = parts two.first front minus two.front in
    let t = single one.second (bare_symbol 45) one.back in
    let opens : terminal t.token ≡ g.opening g.less = terminal_is t.token (bare_symbol 45) t.is in
    let r = right n two.second two.back (part Terms n ∷ rest) (left_out (λ left. left) refl w) in
    let middle : Written (part Terms n ∷ rest) = chosen g.less t.token opens (grouped r.written) in
    let l = left n one.first one.front rest middle in
    let v = values r.written in
    record {
      written = l.written;
      spelled = l.spelled ∙ (ap (λ (us : List Lexeme). one.first ++ t.token ∷ us) r.spelled
          ∙ spelled_middle ts one.first two.first one.second two.second t.token (spelling w) two.whole one.whole t.whole);
      stands = l.stands ∙ (ap (λ (y : Expression). v.1.1.0 (e.Binary op.Sub a y)) r.stands ∙ ap (λ (u : Values (part Terms n ∷ rest)). u.0 (e.Binary op.Sub a b)) r.others);
      others = l.others ∙ ap (λ (u : Values (part Terms n ∷ rest)). u.1) r.others;
      fits = λ c h m f. l.fits c (omega arith) (omega arith) (omega arith, r.fits (suc (c + operators a)) (omega arith) (omega arith) (subst (λ (d : ℕ). Fits w d) (omega arith) f));
    }
