-- Tests of lists, and items by their places.
use Rattle.std.proofs.Common.{◌≡◌, ℕ, zero, suc, ◌+◌, ◌<◌, ◌≤◌, Bool, true, false, cond, ◌||◌, List, [], ◌∷◌, ◌++◌}
use Rattle.std.proofs.Common.{length, get_or, drop, map, refl, sym, ap, ◌∙◌, subst, arith}
use Rattle.std.specs.Prelude.{Some, count_by, slice_get}
use Rattle.std.specs.List.{list_any}
use Rattle.std.proofs.lemmas.List.{drop_all}
use Rattle.std.proofs.lemmas.List.Sums.{sum_by-cons}
use Rattle.std.proofs.Math.Seq.{drop-cons}

pub or_left : (a b : Bool) → (a || b) ≡ false → a ≡ false
or_left true b e = cc
or_left false b e = refl

pub or_right : (a b : Bool) → (a || b) ≡ false → b ≡ false
or_right true b e = cc
or_right false b e = e

pub same_truth : (a b : Bool) → (a ≡ true → b ≡ true) → (b ≡ true → a ≡ true) → a ≡ b
same_truth true b to from = sym (to refl)
same_truth false true to from = from refl
same_truth false false to from = refl

-- ---- tests

pub none_at : {X : Type 0} (p : X → Bool) (xs : List X) (i : ℕ) (x : X) → list_any p xs ≡ false → slice_get xs i ≡ Some x → p x ≡ false
none_at p [] i x none is = absurd (cc)
none_at p (y ∷ ys) zero x none is = let same : y ≡ x = cc in subst (λ z. p z ≡ false) same (or_left (p y) (list_any p ys) none)
none_at p (y ∷ ys) (suc i) x none is = none_at p ys i x (or_right (p y) (list_any p ys) none) is

-- if a test finds one
pub record Finds {X : Type 0} (p : X → Bool) (xs : List X) : Type 0 where
  pub at : ℕ
  pub found : X
  pub is : slice_get xs at ≡ Some found
  pub passes : p found ≡ true

finds_by : {X : Type 0} (p : X → Bool) (y : X) (ys : List X) (b : Bool) → p y ≡ b → (b || list_any p ys) ≡ true →
    (list_any p ys ≡ true → Finds p ys) → Finds p (y ∷ ys)
finds_by p y ys true is e more = record { at = 0; found = y; is = refl; passes = is }
finds_by p y ys false is e more =
    let f = more e in record { at = suc f.at; found = f.found; is = f.is; passes = f.passes }

pub finds : {X : Type 0} (p : X → Bool) (xs : List X) → list_any p xs ≡ true → Finds p xs
finds p [] e = absurd (cc)
finds p (y ∷ ys) e = finds_by p y ys (p y) refl e (finds p ys)

or_true : (a b : Bool) → b ≡ true → (a || b) ≡ true
or_true true b e = refl
or_true false b e = e

pub any_at : {X : Type 0} (p : X → Bool) (xs : List X) (i : ℕ) (x : X) → slice_get xs i ≡ Some x → p x ≡ true → list_any p xs ≡ true
any_at p [] i x is e = absurd (cc)
any_at p (y ∷ ys) zero x is e =
    let same : y ≡ x = cc in ap (λ (b : Bool). b || list_any p ys) (ap p same ∙ e)
any_at p (y ∷ ys) (suc i) x is e = or_true (p y) (list_any p ys) (any_at p ys i x is e)

-- ---- items by their places

pub get_front : {X : Type 0} (xs ys : List X) (k : ℕ) (x : X) → slice_get xs k ≡ Some x → slice_get (xs ++ ys) k ≡ Some x
get_front [] ys k x is = absurd (cc)
get_front (z ∷ xs) ys zero x is = is
get_front (z ∷ xs) ys (suc k) x is = get_front xs ys k x is

pub get_end : {X : Type 0} (xs : List X) (x : X) → slice_get (xs ++ x ∷ []) (length xs) ≡ Some x
get_end [] x = refl
get_end (z ∷ xs) x = get_end xs x

-- the rest of a list from an item on
pub drop_item : {X : Type 0} (xs : List X) (i : ℕ) (x : X) → i < length xs → x ≡ get_or xs i x → drop i xs ≡ x ∷ drop (i + 1) xs
drop_item xs i x below is =
    drop-cons xs i x below ∙ (λ k. sym is k ∷ drop ((let e : suc i ≡ i + 1 = omega arith in e) k) xs)

-- ---- tests of the rest of a list, item by item

module _ {X Y : Type 0} (p : Y → Bool) (v : X → Y) (xs : List X) (i : ℕ) (x : X) (below : i < length xs) (is : x ≡ get_or xs i x) where
  any_next : list_any p (map v (drop i xs)) ≡ (p (v x) || list_any p (map v (drop (i + 1) xs)))
  any_next = ap (λ (ys : List X). list_any p (map v ys)) (drop_item xs i x below is)

  pub any_here : p (v x) ≡ true → list_any p (map v (drop i xs)) ≡ true
  any_here e = any_next ∙ ap (λ (b : Bool). b || list_any p (map v (drop (i + 1) xs))) e

  pub any_later : p (v x) ≡ false → list_any p (map v (drop i xs)) ≡ list_any p (map v (drop (i + 1) xs))
  any_later e = any_next ∙ ap (λ (b : Bool). b || list_any p (map v (drop (i + 1) xs))) e

  count_next : count_by p (map v (drop i xs)) ≡ cond (p (v x)) 1 0 + count_by p (map v (drop (i + 1) xs))
  count_next =
      ap (λ (ys : List X). count_by p (map v ys)) (drop_item xs i x below is)
      ∙ sum_by-cons (λ (y : Y). cond (p y) 1 0) (v x) (map v (drop (i + 1) xs))

  pub count_here : p (v x) ≡ true → count_by p (map v (drop i xs)) ≡ 1 + count_by p (map v (drop (i + 1) xs))
  count_here e = count_next ∙ ap (λ (b : Bool). cond b 1 0 + count_by p (map v (drop (i + 1) xs))) e

  pub count_later : p (v x) ≡ false → count_by p (map v (drop i xs)) ≡ count_by p (map v (drop (i + 1) xs))
  count_later e =
      count_next ∙ ap (λ (b : Bool). cond b 1 0 + count_by p (map v (drop (i + 1) xs))) e
      ∙ (let same : 0 + count_by p (map v (drop (i + 1) xs)) ≡ count_by p (map v (drop (i + 1) xs)) = omega arith in same)

pub any_past : {X Y : Type 0} (p : Y → Bool) (v : X → Y) (xs : List X) (i : ℕ) → length xs ≤ i → list_any p (map v (drop i xs)) ≡ false
any_past p v xs i past = ap (λ (ys : List _). list_any p (map v ys)) (drop_all i xs past)

pub count_past : {X Y : Type 0} (p : Y → Bool) (v : X → Y) (xs : List X) (i : ℕ) → length xs ≤ i → count_by p (map v (drop i xs)) ≡ 0
count_past p v xs i past = ap (λ (ys : List _). count_by p (map v ys)) (drop_all i xs past)
