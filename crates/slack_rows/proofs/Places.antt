-- Sets of cases, as more and more come.
use Rattle.std.proofs.Common.{inl, inr, ◌≡◌, ℕ, zero, suc, ◌+◌, ◌<◌, ◌≤◌, refl, sym, ap, subst, ◌∙◌, arith, List, [], ◌∷◌, ◌++◌, length}
use Rattle.std.specs.Prelude.{slice_index_or}
use Rattle.std.specs.List.{AllByRecursion}
use Rattle.std.proofs.lemmas.Bool.{cases_eq, cases_lt}
use Rattle.std.proofs.lemmas.List.{get_or_append_left, get_or_past, get_or_push, length-append, map-append}
use Rattle.slack_rows.specs.Known.{AreSets, IsSetWith, numbers_of, places_of, places_within}

-- ---- how many are gone through

none : (sets : List (ℕ × ℕ)) (left : ℕ) → places_within left sets zero ≡ []
none sets zero = refl
none sets (suc left) = refl

pub places_none : (sets : List (ℕ × ℕ)) → places_of sets 0 ≡ []
places_none sets = none sets (length sets)

same_left : (sets : List (ℕ × ℕ)) → AreSets sets → (left more number : ℕ) → number ≤ left → number ≤ more →
    places_within left sets number ≡ places_within more sets number
same_left sets are left more zero one other = none sets left ∙ sym (none sets more)
same_left sets are zero more (suc number) one other = absurd (omega (arith, one))
same_left sets are (suc left) zero (suc number) one other = absurd (omega (arith, other))
same_left sets are (suc left) (suc more) (suc number) one other =
    let before = are number in
    ap (λ (xs : List ℕ). xs ++ (slice_index_or sets number (0, 0)).1 ∷ [])
    (same_left sets are left more (slice_index_or sets number (0, 0)).0 (omega (arith, one, before)) (omega (arith, other, before)))

-- ---- one more

module _ (sets : List (ℕ × ℕ)) (are : AreSets sets) (set : ℕ × ℕ) where
  grown_by : (left number : ℕ) → number ≤ length sets →
      places_within left (sets ++ set ∷ []) number ≡ places_within left sets number
  grown_by zero number within = refl
  grown_by (suc left) zero within = refl
  grown_by (suc left) (suc number) within =
      let before = are number in
      ap (λ (e : ℕ × ℕ). places_within left (sets ++ set ∷ []) e.0 ++ e.1 ∷ [])
      (get_or_append_left sets (set ∷ []) (0, 0) number (omega (arith, within)))
      ∙ ap (λ (xs : List ℕ). xs ++ (slice_index_or sets number (0, 0)).1 ∷ [])
      (grown_by left (slice_index_or sets number (0, 0)).0 (omega (arith, within, before)))

  pub sets_longer : (number : ℕ) (new : List (ℕ × ℕ)) → IsSetWith sets set number new → length sets ≤ length new
  sets_longer number new is = elim is.grows [
    | inl same ↦ let long = ap (λ (xs : List (ℕ × ℕ)). length xs) same in omega (arith, long)
    | inr more ↦ let long = ap (λ (xs : List (ℕ × ℕ)). length xs) more ∙ length-append sets (set ∷ []) in omega (arith, long)
  ]

  pub number_within : (number : ℕ) (new : List (ℕ × ℕ)) → IsSetWith sets set number new → number ≤ length new
  number_within number new is = let next = is.next in let below = is.below in omega (arith, next, below)

  are_more : set.0 ≤ length sets → AreSets (sets ++ set ∷ [])
  are_more within k = elim (cases_lt k (length sets)) [
    | inl less ↦ subst (λ (e : ℕ × ℕ). e.0 ≤ k) (sym (get_or_append_left sets (set ∷ []) (0, 0) k less)) (are k)
    | inr past ↦ elim (cases_eq (length sets) k) [
      | inl same ↦ subst (λ (e : ℕ × ℕ). e.0 ≤ k) (sym (get_or_push sets set (0, 0) k same)) (omega (arith, within, same))
      | inr other ↦
          let long = length-append sets (set ∷ []) in
          subst (λ (e : ℕ × ℕ). e.0 ≤ k) (sym (get_or_past (sets ++ set ∷ []) k (0, 0) (omega (arith, past, other, long)))) (omega arith)
    ]
  ]

  pub sets_more : (number : ℕ) (new : List (ℕ × ℕ)) → set.0 ≤ length sets → IsSetWith sets set number new → AreSets new
  sets_more number new within is = elim is.grows [
    | inl same ↦ subst AreSets (sym same) are
    | inr more ↦ subst AreSets (sym more) (are_more within)
  ]

  -- the sets that there were have the same cases
  pub places_same : (number : ℕ) (new : List (ℕ × ℕ)) → IsSetWith sets set number new → (own : ℕ) → own ≤ length sets →
      places_of new own ≡ places_of sets own
  places_same number new is own within = elim is.grows [
    | inl same ↦ ap (λ (xs : List (ℕ × ℕ)). places_of xs own) same
    | inr more ↦
        let long = length-append sets (set ∷ []) in
        ap (λ (xs : List (ℕ × ℕ)). places_of xs own) more
        ∙ grown_by (length (sets ++ set ∷ [])) own within
        ∙ same_left sets are (length (sets ++ set ∷ [])) (length sets) own (omega (arith, within, long)) within
  ]

  -- the new one has one more
  pub places_new : (number : ℕ) (new : List (ℕ × ℕ)) → set.0 ≤ length sets → IsSetWith sets set number new →
      places_of new number ≡ places_of sets set.0 ++ set.1 ∷ []
  places_new number new within is =
      let place = is.place in
      let now = sets_more number new within is in
      let below = is.below in
      let at_next = is.next in
      let next : number ≡ suc is.place = omega (arith, at_next) in
      let before = subst (λ (e : ℕ × ℕ). e.0 ≤ place) is.at (now place) in
      ap (places_of new) next
      ∙ same_left new now (length new) (suc place) (suc place) (omega (arith, below)) (omega arith)
      ∙ ap (λ (e : ℕ × ℕ). places_within place new e.0 ++ e.1 ∷ []) is.at
      ∙ ap (λ (xs : List ℕ). xs ++ set.1 ∷ [])
      (same_left new now place (length new) set.0 before (omega (arith, below, before))
      ∙ places_same number new is set.0 within)

-- ---- numbers

pub numbers_kept : (numbers : List ℕ) (n : ℕ) (places : List ℕ) → AllByRecursion (λ place. place < length numbers) places →
    numbers_of (numbers ++ n ∷ []) places ≡ numbers_of numbers places
numbers_kept numbers n [] all = refl
numbers_kept numbers n (place ∷ places) all =
    ap (λ (k : ℕ). k ∷ numbers_of (numbers ++ n ∷ []) places) (get_or_append_left numbers (n ∷ []) 0 place all.0)
    ∙ ap (λ (ks : List ℕ). slice_index_or numbers place 0 ∷ ks) (numbers_kept numbers n places all.1)

pub numbers_new : (numbers : List ℕ) (n : ℕ) (places : List ℕ) (place : ℕ) → AllByRecursion (λ own. own < length numbers) places →
    length numbers ≡ place → numbers_of (numbers ++ n ∷ []) (places ++ place ∷ []) ≡ numbers_of numbers places ++ n ∷ []
numbers_new numbers n places place all last =
    map-append (λ own. slice_index_or (numbers ++ n ∷ []) own 0) places (place ∷ [])
    ∙ ap (λ (k : ℕ). numbers_of (numbers ++ n ∷ []) places ++ k ∷ []) (get_or_push numbers n 0 place last)
    ∙ ap (λ (ks : List ℕ). ks ++ n ∷ []) (numbers_kept numbers n places all)

pub within_more : (count : ℕ) (places : List ℕ) → AllByRecursion (λ place. place < count) places →
    AllByRecursion (λ place. place < count + 1) places
within_more count [] all = tt
within_more count (place ∷ places) all = let below = all.0 in (omega (arith, below), within_more count places all.1)

pub within_new : (count : ℕ) (places : List ℕ) → AllByRecursion (λ place. place < count) places →
    AllByRecursion (λ place. place < count + 1) (places ++ count ∷ [])
within_new count [] all = (omega arith, tt)
within_new count (place ∷ places) all = let below = all.0 in (omega (arith, below), within_new count places all.1)
