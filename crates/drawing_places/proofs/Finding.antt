-- The first of a list in which something is found, one after the other.
use Rattle.std.proofs.Common.{◌≡◌, ℕ, suc, ◌+◌, ◌<◌, ◌≤◌, true, false, List, length, map, get_or, drop, drop-cons, refl, sym, ap, ◌∙◌, add-one, Option, Some, None}
use Rattle.std.proofs.lemmas.List.{drop_all}
use Rattle.std.specs.Option.{is_some, option_or}
use Rattle.drawing_places.specs.Find.{first_found}

module _ {A B X : Type 0} (find : A → Option B) (f : X → A) where
  -- in what is left from a place on
  abbrev pub found_from : List X → ℕ → Option B
  found_from xs i = first_found find (map f (drop i xs))

  pub next_found : (xs : List X) (i : ℕ) (x : X) → i < length xs → x ≡ get_or xs i x →
      found_from xs i ≡ option_or (find (f x)) (found_from xs (i + 1))
  next_found xs i x below is =
      ap (λ (ys : List X). first_found find (map f ys)) (drop-cons xs i x below)
      ∙ ap (λ (y : X). option_or (find (f y)) (first_found find (map f (drop (suc i) xs)))) (sym is)
      ∙ ap (λ (n : ℕ). option_or (find (f x)) (first_found find (map f (drop n xs)))) (sym (add-one i))

  pub found_here : (xs : List X) (i : ℕ) (x : X) (r : Option B) → i < length xs → x ≡ get_or xs i x → r ≡ find (f x) → is_some r ≡ true →
      found_from xs i ≡ r
  found_here xs i x r below is found some =
      next_found xs i x below is ∙ ap (λ (o : Option B). option_or o (found_from xs (i + 1))) (sym found) ∙ first r some
    where
      first : (o : Option B) → is_some o ≡ true → option_or o (found_from xs (i + 1)) ≡ o
      first None some = absurd (cc)
      first (Some b) some = refl

  pub found_later : (xs : List X) (i : ℕ) (x : X) (r : Option B) → i < length xs → x ≡ get_or xs i x → r ≡ find (f x) → is_some r ≡ false →
      found_from xs i ≡ found_from xs (i + 1)
  found_later xs i x r below is found none =
      next_found xs i x below is ∙ ap (λ (o : Option B). option_or o (found_from xs (i + 1))) (sym found) ∙ second r none
    where
      second : (o : Option B) → is_some o ≡ false → option_or o (found_from xs (i + 1)) ≡ found_from xs (i + 1)
      second None none = refl
      second (Some b) none = absurd (cc)

  pub found_nowhere : (xs : List X) (i : ℕ) → length xs ≤ i → found_from xs i ≡ None
  found_nowhere xs i past = ap (λ (ys : List X). first_found find (map f ys)) (drop_all i xs past)
