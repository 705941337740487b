-- Tests over lists of lists, whether some item passes, and two and three tests.
use Rattle.std.proofs.Common.{inl, inr, ◌≡◌, ◌∙◌, ◌⊎◌, ℕ, ◌+◌, ◌==◌, Bool, true, false, not, ◌&&◌, ◌||◌, List, [], ◌∷◌, ◌++◌, length, map, refl, sym, ap, arith, Option, Some, None}
use Rattle.std.specs.Prelude.{◌↔◌, is_some}
use Rattle.std.specs.List.{cons_option, filter_map, flat_map, list_any, sum_by}
use Rattle.std.proofs.lemmas.List.Folds.{list_any-append}
use Rattle.std.proofs.lemmas.List.Sums.{sum_by-cons}

-- each follows from the other
pub same_test : (a b : Bool) → (a ≡ true → b ≡ true) → (b ≡ true → a ≡ true) → a ≡ b
same_test true true to from = refl
same_test true false to from = sym (to refl)
same_test false true to from = from refl
same_test false false to from = refl

pub or_same : (a b a' b' : Bool) → a ≡ a' → b ≡ b' → (a || b) ≡ (a' || b')
or_same a b a' b' first second = ap (λ (x : Bool). x || b) first ∙ ap (λ (x : Bool). a' || x) second

pub or_swap : (a b c d : Bool) → ((a || b) || (c || d)) ≡ ((a || c) || (b || d))
or_swap true b c d = refl
or_swap false true true d = refl
or_swap false true false d = refl
or_swap false false c d = refl

pub or_none : (a : Bool) → (a || false) ≡ a
or_none true = refl
or_none false = refl

-- ---- of one list

module _ {A : Type 0} where
  pub any_each : (p q : A → Bool) → ((x : A) → p x ≡ q x) → (xs : List A) → list_any p xs ≡ list_any q xs
  any_each p q same [] = refl
  any_each p q same (x ∷ xs) =
      or_same (p x) (list_any p xs) (q x) (list_any q xs) (same x) (any_each p q same xs)

  pub any_never : (xs : List A) → list_any (λ (x : A). false) xs ≡ false
  any_never [] = refl
  any_never (x ∷ xs) = any_never xs

  pub any_or : (p q : A → Bool) (xs : List A) →
      list_any (λ x. p x || q x) xs ≡ (list_any p xs || list_any q xs)
  any_or p q [] = refl
  any_or p q (x ∷ xs) =
      ap (λ (rest : Bool). (p x || q x) || rest) (any_or p q xs)
      ∙ or_swap (p x) (q x) (list_any p xs) (list_any q xs)

  abbrev pub some_of : List A → Bool
  some_of [] = false
  some_of (x ∷ xs) = true

  pub some_append : (xs ys : List A) → some_of (xs ++ ys) ≡ (some_of xs || some_of ys)
  some_append [] ys = refl
  some_append (x ∷ xs) ys = refl

  pub none_counted : (xs : List A) → (length xs == 0) ≡ not (some_of xs)
  none_counted [] = refl
  none_counted (x ∷ xs) = grind arith

-- ---- of lists made of others

module _ {A B : Type 0} where
  pub any_map : (p : B → Bool) (f : A → B) (xs : List A) →
      list_any p (map f xs) ≡ list_any (λ x. p (f x)) xs
  any_map p f [] = refl
  any_map p f (x ∷ xs) = ap (λ (rest : Bool). p (f x) || rest) (any_map p f xs)

  pub any_flat : (p : B → Bool) (f : A → List B) (xs : List A) →
      list_any p (flat_map f xs) ≡ list_any (λ x. list_any p (f x)) xs
  any_flat p f [] = refl
  any_flat p f (x ∷ xs) =
      list_any-append p (f x) (flat_map f xs)
      ∙ ap (λ (rest : Bool). list_any p (f x) || rest) (any_flat p f xs)

  pub any_swap : (p : A → B → Bool) (xs : List A) (ys : List B) →
      list_any (λ x. list_any (p x) ys) xs ≡ list_any (λ y. list_any (λ x. p x y) xs) ys
  any_swap p [] ys = sym (any_never ys)
  any_swap p (x ∷ xs) ys =
      ap (λ (rest : Bool). list_any (p x) ys || rest) (any_swap p xs ys)
      ∙ sym (any_or (p x) (λ y. list_any (λ x. p x y) xs) ys)

  pub some_filtered : (f : A → Option B) (xs : List A) →
      some_of (filter_map f xs) ≡ list_any (λ x. is_some (f x)) xs
  some_filtered f [] = refl
  some_filtered f (x ∷ xs) = by (f x) (some_filtered f xs)
    where
      by : (o : Option B) → some_of (filter_map f xs) ≡ list_any (λ x. is_some (f x)) xs →
          some_of (cons_option o (filter_map f xs))
          ≡ (is_some o || list_any (λ x. is_some (f x)) xs)
      by None more = more
      by (Some y) more = refl

  pub some_flat : (f : A → List B) (xs : List A) →
      some_of (flat_map f xs) ≡ list_any (λ x. some_of (f x)) xs
  some_flat f [] = refl
  some_flat f (x ∷ xs) =
      some_append (f x) (flat_map f xs)
      ∙ ap (λ (rest : Bool). some_of (f x) || rest) (some_flat f xs)

-- ---- of sums

sum_none : (a b : ℕ) → (a + b == 0) ≡ ((a == 0) && (b == 0))
sum_none a b = grind arith

not_or : (a b : Bool) → (not a && not b) ≡ not (a || b)
not_or true b = refl
not_or false b = refl

pub none_in_sum : {A B : Type 0} (f : A → List B) (xs : List A) →
    (sum_by (λ x. length (f x)) xs == 0) ≡ not (list_any (λ x. some_of (f x)) xs)
none_in_sum f [] = refl
none_in_sum f (x ∷ xs) =
    ap (λ (n : ℕ). n == 0) (sum_by-cons (λ x. length (f x)) x xs)
    ∙ sum_none (length (f x)) (sum_by (λ x. length (f x)) xs)
    ∙ ap (λ (b : Bool). b && (sum_by (λ x. length (f x)) xs == 0)) (none_counted (f x))
    ∙ ap (λ (b : Bool). not (some_of (f x)) && b) (none_in_sum f xs)
    ∙ not_or (some_of (f x)) (list_any (λ x. some_of (f x)) xs)

-- ---- two and three tests

in_two : (a b : Bool) → (a || (b || false)) ≡ true → (a ≡ true) ⊎ (b ≡ true)
in_two true b is = inl refl
in_two false true is = inr refl
in_two false false is = absurd (cc)

of_two : (a b : Bool) → (a ≡ true) ⊎ (b ≡ true) → (a || (b || false)) ≡ true
of_two true b is = refl
of_two false true is = refl
of_two false false (inl is) = absurd (cc)
of_two false false (inr is) = absurd (cc)

in_three : (a b d : Bool) → (a || (b || (d || false))) ≡ true →
    (a ≡ true) ⊎ ((b ≡ true) ⊎ (d ≡ true))
in_three true b d is = inl refl
in_three false b d is = inr (in_two b d is)

of_three : (a b d : Bool) → (a ≡ true) ⊎ ((b ≡ true) ⊎ (d ≡ true)) →
    (a || (b || (d || false))) ≡ true
of_three true b d is = refl
of_three false b d (inl is) = absurd (cc)
of_three false b d (inr is) = of_two b d is

pub two_are : (f a b : Bool) → (f ≡ true) ↔ ((a ≡ true) ⊎ (b ≡ true)) → (a || (b || false)) ≡ f
two_are f a b law =
    same_test (a || (b || false)) f (λ found. law.1 (in_two a b found)) (λ is. of_two a b (law.0 is))

pub three_are : (f a b d : Bool) → (f ≡ true) ↔ ((a ≡ true) ⊎ ((b ≡ true) ⊎ (d ≡ true))) →
    (a || (b || (d || false))) ≡ f
three_are f a b d law =
    same_test (a || (b || (d || false))) f (λ found. law.1 (in_three a b d found))
    (λ is. of_three a b d (law.0 is))

-- no test passes, whatever else is there
pub none_is : (f a b d : Bool) → (f ≡ true) ↔ ((a ≡ true) ⊎ ((b ≡ true) ⊎ (d ≡ true))) →
    a ≡ false → b ≡ false → d ≡ false → false ≡ f
none_is f a b d law first second third =
    sym ((λ i. first i || (second i || (third i || false)))) ∙ three_are f a b d law
