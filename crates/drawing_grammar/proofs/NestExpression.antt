-- A canonical expression that is read opens no more than may be open at once, wherever it stands.
use Rattle.std.proofs.Common.{◌≡◌, ℕ, suc, ◌+◌, ◌≤◌, true, false, List, [], ◌∷◌, ◌++◌, None, refl, ap, subst, ◌∙◌, arith, append_assoc}
use Rattle.std.specs.Prelude.{max, ℤ, is_some}
use Rattle.std.specs.Fmt.{signed_decimal}
use Rattle.scald_lex.specs.declared.token.TokenKind.TheVariants as kind
use Rattle.drawing_tree.specs.declared.expr.Op.{Op}
use Rattle.drawing_tree.specs.declared.expr.Op.TheVariants as op
use Rattle.drawing_tree.specs.Expression.{Expression}
use Rattle.drawing_tree.specs.Expression as e
use Rattle.drawing_tree.specs.WellFormed.{IsFreeWord}
use Rattle.drawing_grammar.specs.declared.terminal.Terminal.{Terminal}
use Rattle.drawing_grammar.specs.declared.terminal.Terminal.TheVariants.{CloseParenthesis, Equals}
use Rattle.drawing_grammar.specs.declared.terminal.Terminal.TheVariants as is
use Rattle.drawing_grammar.specs.Lexeme.{symbol_terminal}
use Rattle.drawing_grammar.specs.Grammar.{Need, mark, part, group, Unary, Factors, Terms, Comparison, OrEqual, Product, Sum, Expr}
use Rattle.drawing_grammar.specs.Grammar as g
use Rattle.drawing_grammar.specs.Machine.{choice}
use Rattle.drawing_grammar.specs.Written.{limit}
use Rattle.drawing_grammar.proofs.Cutting.{Bare}
use Rattle.drawing_grammar.proofs.CanonicalTokens.{word, symbol, minus, open_parenthesis, close_parenthesis, equals, exclamation, less, greater}
use Rattle.drawing_grammar.proofs.LeftOver.{LeftOver, first_of, take_mark, take_choice, pass_part, into_group}
use Rattle.drawing_grammar.proofs.Matching.{free_word}
use Rattle.drawing_grammar.proofs.PhraseSteps.{bare_symbol}

-- ---- what is left over, at each level of the grammar

pub record Nests (n deep : ℕ) (more : List Bare) (needs : List Need) : Type 0 where
  pub nests : n + deep ≤ limit
  pub left : LeftOver more needs

-- No operator stands first.
pub record Closes (bs : List Bare) : Type 0 where
  pub factors : choice g.Factors (first_of bs) ≡ None
  pub terms : choice g.Terms (first_of bs) ≡ None
  pub comparison : choice g.Comparison (first_of bs) ≡ None

-- The first token begins an operand.
abbrev pub Begins : List Bare → Type 0
Begins bs = (more : List Bare) → is_some (choice g.Unary (first_of (bs ++ more))) ≡ true

-- Then it is no equals sign, and begins no range.
pub unary_first : (l : Terminal) → is_some (choice g.Unary l) ≡ true →
    (choice g.OrEqual l ≡ None) × (choice g.Range l ≡ None)
unary_first is.Number h = (refl, refl)
unary_first is.Word h = (refl, refl)
unary_first is.Minus h = (refl, refl)
unary_first is.OpenParenthesis h = (refl, refl)
unary_first _ h = absurd cc

pub record AsUnary (x : Expression) (bs : List Bare) (deep : ℕ) : Type 0 where
  begins : Begins bs
  reads : (n : ℕ) → n ≤ limit → (more : List Bare) (rest : List Need) →
      LeftOver (bs ++ more) (part Unary n ∷ rest) → Nests n deep more rest

pub record AsProduct (x : Expression) (bs : List Bare) (deep : ℕ) : Type 0 where
  begins : Begins bs
  reads : (n : ℕ) → n ≤ limit → (more : List Bare) (rest : List Need) →
      LeftOver (bs ++ more) (part Unary n ∷ part Factors n ∷ rest) →
      Nests n deep more (part Factors n ∷ rest)

pub record AsSum (x : Expression) (bs : List Bare) (deep : ℕ) : Type 0 where
  pub begins : Begins bs
  pub reads : (n : ℕ) → n ≤ limit → (more : List Bare) (rest : List Need) →
      LeftOver (bs ++ more) (part Unary n ∷ part Factors n ∷ part Terms n ∷ rest) →
      Nests n deep more (part Factors n ∷ part Terms n ∷ rest)

pub record AsWhole (x : Expression) (bs : List Bare) (deep : ℕ) : Type 0 where
  pub begins : Begins bs
  pub reads : (n : ℕ) → n ≤ limit → (more : List Bare) (rest : List Need) → Closes more →
      LeftOver (bs ++ more) (part Unary n ∷ part Factors n ∷ part Terms n ∷ part Comparison n ∷
      rest) → Nests n deep more rest

-- ---- from level to level

pub product_of_unary : (x : Expression) (bs : List Bare) (deep : ℕ) → AsUnary x bs deep →
    AsProduct x bs deep
product_of_unary x bs deep u = record {
  begins = u.begins;
  reads =
      λ n h more rest b. u.reads n h more (part Factors n ∷ rest) b;
}

pub sum_of_product : (x : Expression) (bs : List Bare) (deep : ℕ) → AsProduct x bs deep →
    AsSum x bs deep
sum_of_product x bs deep p = record {
  begins = p.begins;
  reads =
      λ n h more rest b. p.reads n h more (part Terms n ∷ rest) b;
}

-- No factor follows, nor a term.
pub pass_sum : (n : ℕ) (more : List Bare) (rest : List Need) →
    choice g.Factors (first_of more) ≡ None → choice g.Terms (first_of more) ≡ None →
    LeftOver more (part Factors n ∷ part Terms n ∷ rest) → LeftOver more rest
pass_sum n more rest factors terms b =
    pass_part Terms n (λ left. left) more rest terms refl
    (pass_part Factors n (λ left. left) more (part Terms n ∷ rest) factors refl b)

pub whole_of_sum : (x : Expression) (bs : List Bare) (deep : ℕ) → AsSum x bs deep →
    AsWhole x bs deep
whole_of_sum x bs deep s = record {
  begins = s.begins;
  reads = λ n h more rest c b.
      let r = s.reads n h more (part Comparison n ∷ rest) b in
      record {
        nests = r.nests;
        left = pass_part Comparison n (λ left. left) more rest c.comparison
            refl (pass_sum n more (part Comparison n ∷ rest) c.factors c.terms r.left);
      };
}

-- in parentheses
pub unary_of_whole : (x : Expression) (bs : List Bare) (deep : ℕ) → AsWhole x bs deep →
    AsUnary x (open_parenthesis ++ bs ++ close_parenthesis) (suc deep)
unfolding symbol_terminal
unary_of_whole x bs deep w = record {
  begins = λ more. refl;
  reads = λ n h more rest b.
      let o = take_choice g.bracketed n (bare_symbol 40) ((bs ++ close_parenthesis) ++ more) rest
      refl b in
      let fits : suc n ≤ limit = o.fits in
      let i = into_group Expr (suc n) ((bs ++ close_parenthesis) ++ more)
      (mark CloseParenthesis ∷ rest) refl o.left in
      let needs : List Need = part Unary (suc n) ∷ part Factors (suc n) ∷ part Terms (suc n) ∷ part
      Comparison (suc n) ∷ mark CloseParenthesis ∷ rest in
      let j : LeftOver (bs ++ (bare_symbol 41 ∷ more)) needs =
      subst (λ (ts : List Bare). LeftOver ts needs) (append_assoc bs close_parenthesis more)
      i in
      let r = w.reads (suc n) fits (bare_symbol 41 ∷ more) (mark CloseParenthesis ∷ rest)
      (record { factors = refl; terms = refl; comparison = refl }) j in
      let deeper = r.nests in
      record {
        nests = omega arith;
        left = take_mark (bare_symbol 41) more CloseParenthesis rest
            refl r.left;
      };
}

-- ---- numbers, parameters and minus signs

pub number_unary : (k : ℤ) (bs : List Bare) → bs ≡ (record {
  kind = kind.Number k;
  text =
      signed_decimal k;
}) ∷ [] → AsUnary (e.Number k) bs 0
number_unary k bs same =
    let x : Bare = record { kind = kind.Number k; text = signed_decimal k } in
    record {
      begins = λ more. ap (λ (ts : List Bare). is_some (choice g.Unary (first_of (ts ++ more))))
          same;
      reads = λ n h more rest b.
          let o = take_choice g.number n x more rest refl
          (subst (λ (ts : List Bare). LeftOver (ts ++ more) (part Unary n ∷ rest)) same b) in
          record { nests = omega arith; left = o.left };
    }

pub word_unary : (text : List ℕ) → IsFreeWord text → AsUnary (e.Param text) (word text) 0
word_unary text is =
    let free = free_word text is.is_free in
    record {
      begins = λ more. ap (λ (l : Terminal). is_some (choice g.Unary l)) free;
      reads = λ n h more rest b.
          let o = take_choice g.parameter n (record { kind = kind.Word; text = text }) more rest
          free b in
          record { nests = omega arith; left = o.left };
    }

pub minus_unary : (x : Expression) (bs : List Bare) (deep : ℕ) → AsUnary x bs deep →
    AsUnary (e.Negate x) (minus ++ bs) (suc deep)
unfolding symbol_terminal
minus_unary x bs deep u = record {
  begins = λ more. refl;
  reads = λ n h more rest b.
      let o = take_choice g.negated n (bare_symbol 45) (bs ++ more) rest refl b in
      let r = u.reads (suc n) o.fits more rest o.left in
      let deeper = r.nests in
      record { nests = omega arith; left = r.left };
}

-- ---- products and sums

regrouped : (front back more : List Bare) (x : Bare) (needs : List Need) →
    LeftOver ((front ++ (x ∷ []) ++ back) ++ more) needs →
    LeftOver (front ++ (x ∷ (back ++ more))) needs
regrouped front back more x needs b =
    subst (λ (ts : List Bare). LeftOver ts needs) (append_assoc (front ++ x ∷ []) back more
    ∙ append_assoc front (x ∷ []) (back ++ more)) b

-- what an operand begins with, its operation does
begins_on : (front back : List Bare) (x : Bare) → Begins front → Begins (front ++ (x ∷ []) ++ back)
begins_on front back x h more =
    ap (λ (ts : List Bare). is_some (choice g.Unary (first_of ts)))
    (append_assoc (front ++ x ∷ []) back more ∙ append_assoc front (x ∷ []) (back ++ more))
    ∙ h (x ∷ (back ++ more))

pub product_times : (a b : Expression) (front back : List Bare) (deep more : ℕ) →
    AsProduct a front deep → AsUnary b back more → AsProduct (e.Binary op.Mul a b)
    (front ++ symbol 42 ++ back) (max deep more)
unfolding symbol_terminal
product_times a b front back deep more l r = record {
  begins = begins_on front back (bare_symbol 42) l.begins;
  reads = λ n h later rest x.
      let one = l.reads n h (bare_symbol 42 ∷ (back ++ later)) rest
      (regrouped front back later (bare_symbol 42) (part Unary n ∷ part Factors n ∷ rest) x) in
      let o = take_choice g.times n (bare_symbol 42) (back ++ later) rest refl one.left in
      let two = r.reads n h later (part Factors n ∷ rest) o.left in
      let first = one.nests in
      let second = two.nests in
      record { nests = omega arith; left = two.left };
}

pub product_divided : (a b : Expression) (front back : List Bare) (deep more : ℕ) →
    AsProduct a front deep → AsUnary b back more → AsProduct (e.Binary op.Div a b)
    (front ++ symbol 47 ++ back) (max deep more)
unfolding symbol_terminal
product_divided a b front back deep more l r = record {
  begins = begins_on front back (bare_symbol 47) l.begins;
  reads = λ n h later rest x.
      let one = l.reads n h (bare_symbol 47 ∷ (back ++ later)) rest
      (regrouped front back later (bare_symbol 47) (part Unary n ∷ part Factors n ∷ rest) x) in
      let o = take_choice g.divided n (bare_symbol 47) (back ++ later) rest refl one.left in
      let two = r.reads n h later (part Factors n ∷ rest) o.left in
      let first = one.nests in
      let second = two.nests in
      record { nests = omega arith; left = two.left };
}

pub sum_plus : (a b : Expression) (front back : List Bare) (deep more : ℕ) → AsSum a front deep →
    AsProduct b back more → AsSum (e.Binary op.Add a b) (front ++ symbol 43 ++ back) (max deep more)
unfolding symbol_terminal
sum_plus a b front back deep more l r = record {
  begins = begins_on front back (bare_symbol 43) l.begins;
  reads = λ n h later rest x.
      let ts = bare_symbol 43 ∷ (back ++ later) in
      let one = l.reads n h ts rest (regrouped front back later (bare_symbol 43)
      (part Unary n ∷ part Factors n ∷ part Terms n ∷ rest) x) in
      let o = take_choice g.plus n (bare_symbol 43) (back ++ later) rest refl
      (pass_part Factors n (λ left. left) ts (part Terms n ∷ rest) refl refl one.left) in
      let i = into_group Product n (back ++ later) (part Terms n ∷ rest) refl o.left in
      let two = r.reads n h later (part Terms n ∷ rest) i in
      let first = one.nests in
      let second = two.nests in
      record { nests = omega arith; left = two.left };
}

pub sum_less : (a b : Expression) (front back : List Bare) (deep more : ℕ) → AsSum a front deep →
    AsProduct b back more → AsSum (e.Binary op.Sub a b) (front ++ minus ++ back) (max deep more)
unfolding symbol_terminal
sum_less a b front back deep more l r = record {
  begins = begins_on front back (bare_symbol 45) l.begins;
  reads = λ n h later rest x.
      let ts = bare_symbol 45 ∷ (back ++ later) in
      let one = l.reads n h ts rest (regrouped front back later (bare_symbol 45)
      (part Unary n ∷ part Factors n ∷ part Terms n ∷ rest) x) in
      let o = take_choice g.less n (bare_symbol 45) (back ++ later) rest refl
      (pass_part Factors n (λ left. left) ts (part Terms n ∷ rest) refl refl one.left) in
      let i = into_group Product n (back ++ later) (part Terms n ∷ rest) refl o.left in
      let two = r.reads n h later (part Terms n ∷ rest) i in
      let first = one.nests in
      let second = two.nests in
      record { nests = omega arith; left = two.left };
}

-- ---- comparisons

-- an operator and its right operand
pub record AsCompared (o : Op) (x : Expression) (bs : List Bare) (deep : ℕ) : Type 0 where
  factors : (more : List Bare) → choice g.Factors (first_of (bs ++ more)) ≡ None
  terms : (more : List Bare) → choice g.Terms (first_of (bs ++ more)) ≡ None
  reads : (n : ℕ) → n ≤ limit → (more : List Bare) (rest : List Need) → Closes more →
      LeftOver (bs ++ more) (part Comparison n ∷ rest) → Nests n deep more rest

pub whole_compared : (o : Op) (a b : Expression) (front back : List Bare) (deep more : ℕ) →
    AsSum a front deep → AsCompared o b back more → AsWhole (e.Binary o a b) (front ++ back)
    (max deep more)
whole_compared o a b front back deep more l r = record {
  begins = λ later. ap (λ (ts : List Bare). is_some (choice g.Unary (first_of ts)))
      (append_assoc front back later) ∙ l.begins (back ++ later);
  reads = λ n h later rest c x.
      let needs : List Need = part Unary n ∷ part Factors n ∷ part Terms n ∷ part Comparison n ∷
      rest in
      let one = l.reads n h (back ++ later) (part Comparison n ∷ rest)
      (subst (λ (ts : List Bare). LeftOver ts needs) (append_assoc front back later) x) in
      let two = r.reads n h later rest c (pass_sum n (back ++ later) (part Comparison n ∷ rest)
      (r.factors later) (r.terms later) one.left) in
      let first = one.nests in
      let second = two.nests in
      record { nests = omega arith; left = two.left };
}

-- the right operand, as a group
sum_group : (x : Expression) (bs : List Bare) (deep : ℕ) → AsSum x bs deep → (n : ℕ) → n ≤ limit →
    (more : List Bare) (rest : List Need) → Closes more →
    LeftOver (bs ++ more) (group Sum n ∷ rest) → Nests n deep more rest
sum_group x bs deep s n h more rest c b =
    let r = s.reads n h more rest (into_group Sum n (bs ++ more) rest refl b) in
    record { nests = r.nests; left = pass_sum n more rest c.factors c.terms r.left }

pub compared_equal : (b : Expression) (bs : List Bare) (more : ℕ) → AsSum b bs more →
    AsCompared op.Eq b (equals ++ bs) more
unfolding symbol_terminal
compared_equal b bs more s = record {
  factors = λ later. refl;
  terms = λ later. refl;
  reads = λ n h later rest c x. sum_group b bs more s n h later rest c
      (take_choice g.equal n (bare_symbol 61) (bs ++ later) rest refl x).left;
}

pub compared_unequal : (b : Expression) (bs : List Bare) (more : ℕ) → AsSum b bs more →
    AsCompared op.Ne b ((exclamation ++ equals) ++ bs) more
unfolding symbol_terminal
compared_unequal b bs more s = record {
  factors = λ later. refl;
  terms = λ later. refl;
  reads = λ n h later rest c x.
      let o = take_choice g.unequal n (bare_symbol 33) (bare_symbol 61 ∷ (bs ++ later)) rest refl
      x in
      sum_group b bs more s n h later rest c (take_mark (bare_symbol 61) (bs ++ later) Equals
      (group Sum n ∷ rest) refl o.left);
}

-- with an equals sign after it, or without
or_equal : (bs : List Bare) (n : ℕ) (rest : List Need) →
    LeftOver (bare_symbol 61 ∷ bs) (part OrEqual n ∷ rest) → LeftOver bs rest
unfolding symbol_terminal
or_equal bs n rest b = (take_choice g.or_equal n (bare_symbol 61) bs rest refl b).left

pub compared_below : (b : Expression) (bs : List Bare) (more : ℕ) → AsSum b bs more →
    AsCompared op.Lt b (less ++ bs) more
unfolding symbol_terminal
compared_below b bs more s = record {
  factors = λ later. refl;
  terms = λ later. refl;
  reads = λ n h later rest c x.
      let o = take_choice g.below n (bare_symbol 60) (bs ++ later) rest refl x in
      sum_group b bs more s n h later rest c (pass_part OrEqual n false (bs ++ later)
      (group Sum n ∷ rest) (unary_first (first_of (bs ++ later)) (s.begins later)).0 refl
      o.left);
}

pub compared_above : (b : Expression) (bs : List Bare) (more : ℕ) → AsSum b bs more →
    AsCompared op.Gt b (greater ++ bs) more
unfolding symbol_terminal
compared_above b bs more s = record {
  factors = λ later. refl;
  terms = λ later. refl;
  reads = λ n h later rest c x.
      let o = take_choice g.above n (bare_symbol 62) (bs ++ later) rest refl x in
      sum_group b bs more s n h later rest c (pass_part OrEqual n false (bs ++ later)
      (group Sum n ∷ rest) (unary_first (first_of (bs ++ later)) (s.begins later)).0 refl
      o.left);
}

pub compared_at_most : (b : Expression) (bs : List Bare) (more : ℕ) → AsSum b bs more →
    AsCompared op.Le b ((less ++ equals) ++ bs) more
unfolding symbol_terminal
compared_at_most b bs more s = record {
  factors = λ later. refl;
  terms = λ later. refl;
  reads = λ n h later rest c x.
      let o = take_choice g.below n (bare_symbol 60) (bare_symbol 61 ∷ (bs ++ later)) rest refl x in
      sum_group b bs more s n h later rest c (or_equal (bs ++ later) n (group Sum n ∷ rest) o.left);
}

pub compared_at_least : (b : Expression) (bs : List Bare) (more : ℕ) → AsSum b bs more →
    AsCompared op.Ge b ((greater ++ equals) ++ bs) more
unfolding symbol_terminal
compared_at_least b bs more s = record {
  factors = λ later. refl;
  terms = λ later. refl;
  reads = λ n h later rest c x.
      let o = take_choice g.above n (bare_symbol 62) (bare_symbol 61 ∷ (bs ++ later)) rest refl x in
      sum_group b bs more s n h later rest c (or_equal (bs ++ later) n (group Sum n ∷ rest) o.left);
}
