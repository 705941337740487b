-- Slacks stand in one order, and the least of several is least.
use Rattle.std.proofs.Common.{◌≡◌, Bool, true, false, not, ◌&&◌, cond, refl, arith, List, [], ◌∷◌, map}
use Rattle.std.specs.Prelude.{ℤ, int_lt, int_le, filter}
use Rattle.std.specs.List.{AllByRecursion}
use Rattle.std.proofs.lemmas.Int.{ints}
use Rattle.slack_rows.specs.Slack.{Slack, Free, Ticks, Way, NoNumber, Finding, is_broken, is_fewer, is_less, least_from}
use Rattle.slack_rows.specs.Limit.{same_slack}

-- ---- by number

lt_before : (m n k : ℤ) → int_lt m n ≡ true → int_lt k n ≡ false → int_lt m k ≡ true
lt_before m n k less more = grind (arith, ints)

lt_le_before : (m n k : ℤ) → int_lt m n ≡ true → int_lt k n ≡ false → int_le m k ≡ true
lt_le_before m n k less more = grind (arith, ints)

le_lt_before : (m n k : ℤ) → int_le m n ≡ true → int_le k n ≡ false → int_lt m k ≡ true
le_lt_before m n k less more = grind (arith, ints)

le_before : (m n k : ℤ) → int_le m n ≡ true → int_lt k n ≡ false → int_le m k ≡ true
le_before m n k less more = grind (arith, ints)

lt_le_lt : (m n k : ℤ) → int_lt m n ≡ true → int_le k n ≡ false → int_lt m k ≡ true
lt_le_lt m n k less more = grind (arith, ints)

lt_not_lt : (m n : ℤ) → int_lt m n ≡ true → int_lt n m ≡ false
lt_not_lt m n less = grind (arith, ints)

lt_not_le : (m n : ℤ) → int_lt m n ≡ true → int_le n m ≡ false
lt_not_le m n less = grind (arith, ints)

le_not_lt : (m n : ℤ) → int_le m n ≡ true → int_lt n m ≡ false
le_not_lt m n less = grind (arith, ints)

fewer_before : (a b c : Slack) → is_fewer a b ≡ true → is_fewer c b ≡ false → is_fewer a c ≡ true
fewer_before Free b c less more = absurd (cc)
fewer_before NoNumber NoNumber c less more = absurd (cc)
fewer_before NoNumber (Way n) NoNumber less more = absurd (cc)
fewer_before NoNumber (Way n) (Way k) less more = refl
fewer_before NoNumber (Way n) (Ticks k) less more = refl
fewer_before NoNumber (Way n) Free less more = refl
fewer_before NoNumber (Ticks n) NoNumber less more = absurd (cc)
fewer_before NoNumber (Ticks n) (Way k) less more = refl
fewer_before NoNumber (Ticks n) (Ticks k) less more = refl
fewer_before NoNumber (Ticks n) Free less more = refl
fewer_before NoNumber Free NoNumber less more = absurd (cc)
fewer_before NoNumber Free (Way k) less more = refl
fewer_before NoNumber Free (Ticks k) less more = refl
fewer_before NoNumber Free Free less more = refl
fewer_before (Way m) NoNumber c less more = absurd (cc)
fewer_before (Way m) (Way n) NoNumber less more = absurd (cc)
fewer_before (Way m) (Way n) (Way k) less more = lt_before m n k less more
fewer_before (Way m) (Way n) (Ticks k) less more = lt_le_before m n k less more
fewer_before (Way m) (Way n) Free less more = refl
fewer_before (Way m) (Ticks n) NoNumber less more = absurd (cc)
fewer_before (Way m) (Ticks n) (Way k) less more = le_lt_before m n k less more
fewer_before (Way m) (Ticks n) (Ticks k) less more = le_before m n k less more
fewer_before (Way m) (Ticks n) Free less more = refl
fewer_before (Way m) Free NoNumber less more = absurd (cc)
fewer_before (Way m) Free (Way k) less more = absurd (cc)
fewer_before (Way m) Free (Ticks k) less more = absurd (cc)
fewer_before (Way m) Free Free less more = refl
fewer_before (Ticks m) NoNumber c less more = absurd (cc)
fewer_before (Ticks m) (Way n) NoNumber less more = absurd (cc)
fewer_before (Ticks m) (Way n) (Way k) less more = lt_before m n k less more
fewer_before (Ticks m) (Way n) (Ticks k) less more = lt_before m n k less more
fewer_before (Ticks m) (Way n) Free less more = refl
fewer_before (Ticks m) (Ticks n) NoNumber less more = absurd (cc)
fewer_before (Ticks m) (Ticks n) (Way k) less more = lt_le_lt m n k less more
fewer_before (Ticks m) (Ticks n) (Ticks k) less more = lt_before m n k less more
fewer_before (Ticks m) (Ticks n) Free less more = refl
fewer_before (Ticks m) Free NoNumber less more = absurd (cc)
fewer_before (Ticks m) Free (Way k) less more = absurd (cc)
fewer_before (Ticks m) Free (Ticks k) less more = absurd (cc)
fewer_before (Ticks m) Free Free less more = refl

not_fewer : (a b : Slack) → is_fewer a b ≡ true → is_fewer b a ≡ false
not_fewer Free b less = absurd (cc)
not_fewer NoNumber NoNumber less = refl
not_fewer NoNumber (Way n) less = refl
not_fewer NoNumber (Ticks n) less = refl
not_fewer NoNumber Free less = refl
not_fewer (Way m) NoNumber less = absurd (cc)
not_fewer (Way m) (Way n) less = lt_not_lt m n less
not_fewer (Way m) (Ticks n) less = le_not_lt m n less
not_fewer (Way m) Free less = refl
not_fewer (Ticks m) NoNumber less = absurd (cc)
not_fewer (Ticks m) (Way n) less = lt_not_le m n less
not_fewer (Ticks m) (Ticks n) less = lt_not_lt m n less
not_fewer (Ticks m) Free less = refl

-- ---- what is broken first

-- which of two is broken, and whether the first is fewer
abbrev first_of : Bool → Bool → Bool → Bool
first_of a b fewer = cond a (cond b fewer true) (cond b false fewer)

before_by : (a b c f g h : Bool) → (f ≡ true → g ≡ false → h ≡ true) → first_of a b f ≡ true →
    first_of c b g ≡ false → first_of a c h ≡ true
before_by true true true f g h fewer less more = fewer less more
before_by true true false f g h fewer less more = refl
before_by true false true f g h fewer less more = absurd (cc)
before_by true false false f g h fewer less more = refl
before_by false true c f g h fewer less more = absurd (cc)
before_by false false true f g h fewer less more = absurd (cc)
before_by false false false f g h fewer less more = fewer less more

not_by : (a b f g : Bool) → (f ≡ true → g ≡ false) → first_of a b f ≡ true → first_of b a g ≡ false
not_by true true f g fewer less = fewer less
not_by true false f g fewer less = refl
not_by false true f g fewer less = absurd (cc)
not_by false false f g fewer less = fewer less

-- what is less than one that another is not less than is less than the other
pub less_before : (a b c : Slack) → is_less a b ≡ true → is_less c b ≡ false → is_less a c ≡ true
less_before a b c less more =
    before_by (is_broken a) (is_broken b) (is_broken c) (is_fewer a b) (is_fewer c b) (is_fewer a c)
    (fewer_before a b c) less more

pub not_less : (a b : Slack) → is_less a b ≡ true → is_less b a ≡ false
not_less a b less =
    not_by (is_broken a) (is_broken b) (is_fewer a b) (is_fewer b a) (not_fewer a b) less

pub less_not : (a : Slack) → is_less a a ≡ false
less_not a = by (is_less a a) refl
  where
    by : (x : Bool) → is_less a a ≡ x → is_less a a ≡ false
    by false is = is
    by true is = not_less a a is

contrary : {P : Type 0} (b : Bool) → b ≡ true → b ≡ false → P
contrary b is not_so = absurd (cc)

-- ---- the least

module _ {A : Type 0} (at : A → Finding) where
  least_of : Finding → List A → Slack
  least_of best xs = (least_from best (map at xs)).slack

  pub first_not_less : (best : Finding) (xs : List A) → is_less best.slack (least_from best (map at xs)).slack ≡ false
  first_not_less best [] = less_not best.slack
  first_not_less best (x ∷ xs) =
      by (is_less (at x).slack best.slack) refl (first_not_less (at x) xs) (first_not_less best xs)
    where
      L : Slack
      L = (least_from (at x) (map at xs)).slack

      at_first : is_less (at x).slack best.slack ≡ true → is_less (at x).slack L ≡ false → (b : Bool) → is_less best.slack L ≡ b → b ≡ false
      at_first less least false is = refl
      at_first less least true is =
          contrary (is_less (at x).slack L)
          (less_before (at x).slack best.slack L less (not_less best.slack L is)) least

      by : (b : Bool) → is_less (at x).slack best.slack ≡ b → is_less (at x).slack L ≡ false →
          is_less best.slack (least_from best (map at xs)).slack ≡ false →
          is_less best.slack (cond b (least_from (at x) (map at xs)) (least_from best (map at xs))).slack ≡ false
      by true less one other = at_first less one (is_less best.slack L) refl
      by false less one other = other

  -- none of them is less than the least
  pub none_less : (best : Finding) (xs : List A) → AllByRecursion (λ x. is_less (at x).slack (least_from best (map at xs)).slack ≡ false) xs
  none_less best [] = tt
  none_less best (x ∷ xs) =
      by (is_less (at x).slack best.slack) refl (none_less (at x) xs) (none_less best xs)
    where
      Least : Finding → Slack
      Least finding = (least_from finding (map at xs)).slack

      head : is_less (at x).slack best.slack ≡ false → (b : Bool) → is_less (at x).slack (Least best) ≡ b → b ≡ false
      head more false is = refl
      head more true is =
          contrary (is_less (at x).slack best.slack)
          (less_before (at x).slack (Least best) best.slack is (first_not_less best xs)) more

      by : (b : Bool) → is_less (at x).slack best.slack ≡ b →
          AllByRecursion (λ y. is_less (at y).slack (Least (at x)) ≡ false) xs →
          AllByRecursion (λ y. is_less (at y).slack (Least best) ≡ false) xs →
          AllByRecursion (λ y. is_less (at y).slack (cond b (least_from (at x) (map at xs)) (least_from best (map at xs))).slack ≡ false) (x ∷ xs)
      by true less one other = (first_not_less (at x) xs, one)
      by false less one other = (head less (is_less (at x).slack (Least best)) refl, other)

  -- what is less than the least is none of theirs
  pub none_same : (s least : Slack) (xs : List A) → is_less s least ≡ true →
      AllByRecursion (λ x. is_less (at x).slack least ≡ false) xs → filter (λ x. same_slack (at x).slack s) xs ≡ []
  none_same s least [] less all = refl
  none_same s least (x ∷ xs) less all =
      by (is_less (at x).slack s) (is_less s (at x).slack) (less_before s least (at x).slack less all.0) (none_same s least xs less all.1)
    where
      by : (a b : Bool) → b ≡ true → filter (λ y. same_slack (at y).slack s) xs ≡ [] →
          cond (not a && not b) (x ∷ filter (λ y. same_slack (at y).slack s) xs) (filter (λ y. same_slack (at y).slack s) xs) ≡ []
      by true b is rest = rest
      by false true is rest = rest
      by false false is rest = absurd (cc)
