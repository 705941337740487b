-- The last of a list that passes, and the first, as the list grows.
use Rattle.std.proofs.Common.{◌≡◌, Bool, true, false, cond, refl, ap, ◌∙◌, List, [], ◌∷◌, ◌++◌, Option, Some, None}
use Rattle.std.specs.Prelude.{filter}
use Rattle.std.specs.Option.{option_or}
use Rattle.slack_rows.specs.Held.{first_item, last_item}

module _ {A : Type 0} where
  or_none : (o : Option A) → option_or o None ≡ o
  or_none None = refl
  or_none (Some x) = refl

  or_both : (a b c : Option A) → option_or (option_or a b) c ≡ option_or a (option_or b c)
  or_both None b c = refl
  or_both (Some x) b c = refl

  pub last_append : (xs ys : List A) → last_item (xs ++ ys) ≡ option_or (last_item ys) (last_item xs)
  last_append [] ys = or_none' (last_item ys)
    where
      or_none' : (o : Option A) → o ≡ option_or o None
      or_none' None = refl
      or_none' (Some x) = refl
  last_append (x ∷ xs) ys =
      ap (λ (o : Option A). option_or o (Some x)) (last_append xs ys) ∙ or_both (last_item ys) (last_item xs) (Some x)

  pub first_append : (xs ys : List A) → first_item (xs ++ ys) ≡ option_or (first_item xs) (first_item ys)
  first_append [] ys = refl
  first_append (x ∷ xs) ys = refl

  module _ (test : A → Bool) where
    last_one : (x : A) (b : Bool) (o : Option A) → option_or (last_item (cond b (x ∷ []) [])) o ≡ cond b (Some x) o
    last_one x true o = refl
    last_one x false o = refl

    first_one : (x : A) (b : Bool) (o : Option A) → option_or o (first_item (cond b (x ∷ []) [])) ≡ cond b (option_or o (Some x)) o
    first_one x true o = refl
    first_one x false o = or_none o

    pub filter_more : (xs : List A) (x : A) → filter test (xs ++ x ∷ []) ≡ filter test xs ++ cond (test x) (x ∷ []) []
    filter_more [] x = refl
    filter_more (y ∷ xs) x = by (test y) (filter_more xs x)
      where
        by : (b : Bool) → filter test (xs ++ x ∷ []) ≡ filter test xs ++ cond (test x) (x ∷ []) [] →
            cond b (y ∷ filter test (xs ++ x ∷ [])) (filter test (xs ++ x ∷ []))
            ≡ cond b (y ∷ filter test xs) (filter test xs) ++ cond (test x) (x ∷ []) []
        by true rest = ap (λ (zs : List A). y ∷ zs) rest
        by false rest = rest

    -- with one more at the end
    pub last_more : (xs : List A) (x : A) →
        last_item (filter test (xs ++ x ∷ [])) ≡ cond (test x) (Some x) (last_item (filter test xs))
    last_more xs x =
        ap last_item (filter_more xs x) ∙ last_append (filter test xs) (cond (test x) (x ∷ []) [])
        ∙ last_one x (test x) (last_item (filter test xs))

    pub first_more : (xs : List A) (x : A) →
        first_item (filter test (xs ++ x ∷ [])) ≡ cond (test x) (option_or (first_item (filter test xs)) (Some x)) (first_item (filter test xs))
    first_more xs x =
        ap first_item (filter_more xs x) ∙ first_append (filter test xs) (cond (test x) (x ∷ []) [])
        ∙ first_one x (test x) (first_item (filter test xs))
