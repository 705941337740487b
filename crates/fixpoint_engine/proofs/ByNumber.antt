-- What was found by number, for each number from 0 on.
use Rattle.std.proofs.Common.{◌≡◌, ℕ, ◌+◌, ◌<◌, List, [], ◌∷◌, ◌++◌, length, map, get_or, sym, ap, ◌∙◌, zero-add}
use Rattle.std.specs.List.{range_with_len}
use Rattle.std.proofs.lemmas.List.FromFn.{length-map-range_with_len, get_or-map-range_with_len, map-range_with_len_more}

module _ {A : Type 0} (find : ℕ → A) (n : ℕ) where
  -- one more at the end
  pub known_more : (known more : List A) (found : A) → known ≡ map find (range_with_len 0 n) → found ≡ find n → more ≡ known ++ found ∷ [] → more ≡ map find (range_with_len 0 (n + 1))
  known_more known more found so_far is e = e ∙ (λ i. so_far i ++ is i ∷ []) ∙ sym (map-range_with_len_more find 0 n n (zero-add n))

  pub known_long : (known items : List A) → known ≡ map find (range_with_len 0 n) → items ≡ known → length items ≡ n
  known_long known items is same = ap length (same ∙ is) ∙ length-map-range_with_len find 0 n

  pub known_at : (known items : List A) (number : ℕ) (d : A) → known ≡ map find (range_with_len 0 n) → items ≡ known → number < n → get_or items number d ≡ find number
  known_at known items number d is same below =
      ap (λ (l : List A). get_or l number d) (same ∙ is) ∙ get_or-map-range_with_len find 0 n number number d below (zero-add number)
