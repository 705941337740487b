-- The first pin of each gate that changes beside a clock, in one case after the other.
use Rattle.std.proofs.Common.{◌≡◌, ℕ, ◌+◌, ◌<◌, ◌≤◌, ◌&&◌, ◌||◌, Bool, true, false, cond, not, List, [], ◌∷◌, ◌++◌, length, replicate, inl, inr, refl, sym, ap, ◌∙◌, arith, slice_get, Option, Some, None}
use Rattle.std.specs.Prelude.{nat_lt}
use Rattle.std.specs.List.{list_any, position_from}
use Rattle.std.proofs.Math.Bool.{or-false}
use Rattle.std.proofs.lemmas.Bool.{cases_lt}
use Rattle.std.proofs.lemmas.Bool.Decides.{nat_tests}
use Rattle.std.proofs.lemmas.List.Folds.{list_any-append}
use Rattle.flat_circuit.specs.declared.instance.Pin.{Pin}
use Rattle.flat_circuit.specs.declared.instance.Instance.{Instance}
use Rattle.flat_circuit.specs.Circuit.{Circuit}
use Rattle.flat_circuit.proofs.Driven.{get_none}
use Rattle.fixpoint_engine.specs.Waves.{Waves}
use Rattle.timing_analysis.specs.Case.{Case}
use Rattle.drawing_notes.specs.Passing.{changes_on}
use Rattle.drawing_notes.specs.Unmarked.{AreFirst, changes_beside, changes_in_some, clock_changes, earlier, first_at, first_beside, first_in, first_of, is_bare, target_in}
use Rattle.drawing_notes.proofs.Stepped.{SteppedTo}
use Rattle.drawing_omissions.proofs.Written.{same_at}

-- ---- the first place that passes

module _ {X : Type 0} where
  none_from : (i : ℕ) (xs : List X) → position_from (λ x. false) i xs ≡ None
  none_from i [] = refl
  none_from i (x ∷ xs) = none_from (i + 1) xs

  at_least : (p : X → Bool) (i : ℕ) (xs : List X) (a : ℕ) → position_from p i xs ≡ Some a → i ≤ a
  at_least p i [] a is = absurd cc
  at_least p i (x ∷ xs) a is = by (p x) refl (at_least p (i + 1) xs a)
    where
      by : (b : Bool) → p x ≡ b → (position_from p (i + 1) xs ≡ Some a → i + 1 ≤ a) → i ≤ a
      by true e rest = let here : Some i ≡ Some a = sym (ap (λ b. cond b (Some i) (position_from p (i + 1) xs)) e) ∙ is in let same : i ≡ a = cc in omega (arith, same)
      by false e rest =
          let later = rest (sym (ap (λ b. cond b (Some i) (position_from p (i + 1) xs)) e) ∙ is) in
          omega (arith, later)

  -- here the first one alone
  first_here : (p : X → Bool) (i : ℕ) (xs : List X) → earlier (Some i) (position_from p (i + 1) xs) ≡ Some i
  first_here p i xs = by (position_from p (i + 1) xs) refl
    where
      by : (o : Option ℕ) → position_from p (i + 1) xs ≡ o → earlier (Some i) o ≡ Some i
      by None e = refl
      by (Some b) e =
          let past = at_least p (i + 1) xs b e in
          let no : nat_lt b i ≡ false = grind (arith, nat_tests) in
          ap (λ t. cond t (Some b) (Some i)) no

  second_here : (p : X → Bool) (i : ℕ) (xs : List X) → earlier (position_from p (i + 1) xs) (Some i) ≡ Some i
  second_here p i xs = by (position_from p (i + 1) xs) refl
    where
      by : (o : Option ℕ) → position_from p (i + 1) xs ≡ o → earlier o (Some i) ≡ Some i
      by None e = refl
      by (Some b) e =
          let past = at_least p (i + 1) xs b e in
          let yes : nat_lt i b ≡ true = grind (arith, nat_tests) in
          ap (λ t. cond t (Some i) (Some b)) yes

  pub first_of_both : (p q : X → Bool) (i : ℕ) (xs : List X) → position_from (λ x. p x || q x) i xs ≡ earlier (position_from p i xs) (position_from q i xs)
  first_of_both p q i [] = refl
  first_of_both p q i (x ∷ xs) = by (p x) (q x) (first_of_both p q (i + 1) xs)
    where
      both_here : (n : ℕ) → nat_lt n n ≡ false
      both_here n = grind (arith, nat_tests)

      by : (a b : Bool) → position_from (λ y. p y || q y) (i + 1) xs ≡ earlier (position_from p (i + 1) xs) (position_from q (i + 1) xs) →
          cond (a || b) (Some i) (position_from (λ y. p y || q y) (i + 1) xs)
          ≡ earlier (cond a (Some i) (position_from p (i + 1) xs)) (cond b (Some i) (position_from q (i + 1) xs))
      by true true rest = sym (ap (λ t. cond t (Some i) (Some i)) (both_here i))
      by true false rest = sym (first_here q i xs)
      by false true rest = sym (second_here p i xs)
      by false false rest = rest

-- ---- in a case

module _ (clocks timed : ℕ → Bool) (ws : Waves) (j : Instance) where
  abbrev other : Pin → Bool
  other p = not (target_in clocks p.target) && changes_on ws p.target

  first_by : (b : Bool) → clock_changes clocks ws j ≡ b → position_from (changes_beside clocks ws j) 0 j.pins ≡ position_from (λ p. b && other p) 0 j.pins
  first_by b is = λ k. position_from (λ p. is k && other p) 0 j.pins

  pub first_where_open : clock_changes clocks ws j ≡ true → is_bare timed j ≡ true → first_in clocks timed ws (Some j) ≡ position_from other 0 j.pins
  first_where_open is bare = ap (λ b. cond b (position_from (changes_beside clocks ws j) 0 j.pins) None) bare ∙ first_by true is

  pub none_where_still : clock_changes clocks ws j ≡ false → first_in clocks timed ws (Some j) ≡ None
  none_where_still is =
      ap (λ o. cond (is_bare timed j) o None) (first_by false is ∙ none_from 0 j.pins) ∙ always (is_bare timed j)
    where
      always : (b : Bool) → let none : Option ℕ = None in cond b none None ≡ None
      always true = refl
      always false = refl

-- ---- one case more

module _ (clocks timed : ℕ → Bool) (cases : List Case) (one : Case) (ws : Waves) (waves : one.waves ≡ ws) where
  changes_more : (j : Instance) (p : Pin) → changes_in_some clocks (cases ++ one ∷ []) j p ≡ (changes_in_some clocks cases j p || changes_beside clocks ws j p)
  changes_more j p =
      let test : Case → Bool = λ (case : Case). changes_beside clocks case.waves j p in
      list_any-append test cases (one ∷ []) ∙ ap (λ b. changes_in_some clocks cases j p || b) (or-false (test one) ∙ ap (λ (w : Waves). changes_beside clocks w j p) waves)

  beside_more : (j : Instance) → first_beside clocks timed (cases ++ one ∷ []) j ≡ earlier (first_beside clocks timed cases j) (first_in clocks timed ws (Some j))
  beside_more j = by (is_bare timed j)
    where
      by : (b : Bool) → cond b (position_from (changes_in_some clocks (cases ++ one ∷ []) j) 0 j.pins) None
          ≡ earlier (cond b (position_from (changes_in_some clocks cases j) 0 j.pins) None) (cond b (position_from (changes_beside clocks ws j) 0 j.pins) None)
      by true =
          (λ k. position_from (λ p. changes_more j p k) 0 j.pins)
          ∙ first_of_both (changes_in_some clocks cases j) (changes_beside clocks ws j) 0 j.pins
      by false = refl

  pub first_more : (o : Option Instance) → first_of clocks timed (cases ++ one ∷ []) o ≡ earlier (first_of clocks timed cases o) (first_in clocks timed ws o)
  first_more None = refl
  first_more (Some j) = beside_more j

-- the first pin of an instance, after one case more
abbrev pub with_first : Circuit → (ℕ → Bool) → (ℕ → Bool) → Waves → ℕ → Option ℕ → Option ℕ
with_first c clocks timed ws k before = earlier before (first_in clocks timed ws (slice_get c.instances k))

pub firsts_case : (c : Circuit) (clocks timed : ℕ → Bool) (cases : List Case) (one : Case) (ws : Waves) (old new : List (Option ℕ)) (n : ℕ) → one.waves ≡ ws →
    length c.instances ≤ n → SteppedTo None (with_first c clocks timed ws) old n new → AreFirst c clocks timed cases old → AreFirst c clocks timed (cases ++ one ∷ []) new
firsts_case c clocks timed cases one ws old new n waves whole is before k = elim (cases_lt k n) [
  | inl below ↦
      is.before k below ∙ ap (λ o. earlier o (first_in clocks timed ws (slice_get c.instances k))) (before k)
      ∙ sym (first_more clocks timed cases one ws waves (slice_get c.instances k))
  | inr past ↦
      let none : slice_get c.instances k ≡ None = get_none c.instances k (omega (arith, past, whole)) in
      is.after k past ∙ before k ∙ ap (first_of clocks timed cases) none ∙ sym (ap (first_of clocks timed (cases ++ one ∷ [])) none)
]

-- ---- no case

pub no_first : (c : Circuit) (clocks timed : ℕ → Bool) (n : ℕ) (firsts : List (Option ℕ)) → firsts ≡ replicate n None → AreFirst c clocks timed [] firsts
no_first c clocks timed n firsts none k =
    ap (λ (xs : List (Option ℕ)). first_at xs k) none ∙ same_at None n k ∙ sym (by (slice_get c.instances k))
  where
    by : (o : Option Instance) → first_of clocks timed [] o ≡ None
    by None = refl
    by (Some j) = bare (is_bare timed j)
      where
        bare : (b : Bool) → cond b (position_from (changes_in_some clocks [] j) 0 j.pins) None ≡ None
        bare true = none_from 0 j.pins
        bare false = refl
