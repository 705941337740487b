-- A fold over more slots from one over fewer: joined with itself some slots later.
use Rattle.std.proofs.Common.{◌≡◌, ℕ, zero, suc, ◌+◌, ◌-◌, ◌<◌, ◌≤◌, ◌⊎◌, inl, inr, List, ◌∷◌, length, get_or, map, refl, sym, ap, ◌∙◌, arith}
use Rattle.std.specs.List.{zip}
use Rattle.std.proofs.lemmas.Bool.{cases_lt}
use Rattle.scald_base.specs.Clock.{back}
use Rattle.scald_base.proofs.Back.{back_back}
use Rattle.wave_core.specs.Cell.{Cells, IsLawful}
use Rattle.wave_core.specs.Slots.{slots_from, slots, earlier, later, join_to, fold_at, folded}
use Rattle.wave_core.proofs.Slots.{length_slots, earlier_slots}
use Rattle.wave_core.proofs.Fold.{join_to_same}

pub slots_from_same : {T : Type 0} (n i : ℕ) (f h : ℕ → T) → ((p : ℕ) → f p ≡ h p) → slots_from n i f ≡ slots_from n i h
slots_from_same zero i f h e = refl
slots_from_same (suc n) i f h e = let first = e i in let rest = slots_from_same n (i + 1) f h e in λ j. first j ∷ rest j

pub zipped_from : {A B : Type 0} (n i : ℕ) (f : ℕ → A) (h : ℕ → A) (j : A → A → B) →
    map (λ (p : A × A). j p.0 p.1) (zip (slots_from n i f) (slots_from n i h)) ≡ slots_from n i (λ p. j (f p) (h p))
zipped_from zero i f h j = refl
zipped_from {B = B} (suc n) i f h j = ap (λ (l : List B). j (f i) (h i) ∷ l) (zipped_from n (i + 1) f h j)

module _ {T : Type 0} (k : Cells T) (laws : IsLawful k) where
  -- being above is an order
  above_through : (u v w : T) → k.join u v ≡ u → k.join v w ≡ v → k.join u w ≡ u
  above_through u v w h h' = ap (λ c. k.join c w) (sym h) ∙ laws.join_regroups u v w ∙ ap (λ c. k.join u c) h' ∙ h

  pub above_both : (u v : T) → k.join u v ≡ u → k.join v u ≡ v → u ≡ v
  above_both u v h h' = sym h ∙ laws.join_turns u v ∙ h'

  above_next : (f : ℕ → T) (n i : ℕ) → (i < suc n) ⊎ (suc n ≤ i) → i ≤ suc n → (i < suc n → k.join (join_to k f n) (f i) ≡ join_to k f n) →
      k.join (k.join (join_to k f n) (f (suc n))) (f i) ≡ k.join (join_to k f n) (f (suc n))
  above_next f n i (inl before) within h =
      above_through (k.join (join_to k f n) (f (suc n))) (join_to k f n) (f i) (laws.join_above_left (join_to k f n) (f (suc n))) (h before)
  above_next f n i (inr last) within h =
      let e : i ≡ suc n = omega arith in
      ap (λ (z : ℕ). k.join (k.join (join_to k f n) (f (suc n))) (f z)) e ∙ laws.join_above_right (join_to k f n) (f (suc n))

  pub above_each : (f : ℕ → T) (n i : ℕ) → i ≤ n → k.join (join_to k f n) (f i) ≡ join_to k f n
  above_each f zero i within =
      let e : i ≡ 0 = omega arith in ap (λ (z : ℕ). k.join (f 0) (f z)) e ∙ laws.join_absorbs (f 0)
  above_each f (suc n) i within =
      above_next f n i (cases_lt i (suc n)) within (λ before. above_each f n i (omega arith))

  pub above_all : (f : ℕ → T) (n : ℕ) (u : T) → ((i : ℕ) → i ≤ n → k.join u (f i) ≡ u) → k.join u (join_to k f n) ≡ u
  above_all f zero u h = h 0 (omega arith)
  above_all f (suc n) u h =
      laws.join_least (join_to k f n) (f (suc n)) u (above_all f n u (λ i l. h i (omega arith))) (h (suc n) (omega arith))

  -- two ranges that meet or overlap
  overlap : (f : ℕ → T) (n s t : ℕ) → s ≤ n + 1 → t ≡ n + s → k.join (join_to k f n) (join_to k (λ i. f (s + i)) n) ≡ join_to k f t
  overlap f n s t meet e =
      let one : T = join_to k f n in
      let other : T = join_to k (λ i. f (s + i)) n in
      let whole : T = join_to k f t in
      above_both (k.join (join_to k f n) (join_to k (λ i. f (s + i)) n)) (join_to k f t)
      (above_all f t (k.join (join_to k f n) (join_to k (λ i. f (s + i)) n)) (λ i within. each i within (cases_lt i (n + 1))))
      (laws.join_least (join_to k f n) (join_to k (λ i. f (s + i)) n) (join_to k f t)
      (above_all f n (join_to k f t) (λ i l. above_each f t i (omega (arith, e))))
      (above_all (λ i. f (s + i)) n (join_to k f t) (λ i l. above_each f t (s + i) (omega (arith, e)))))
    where
      each : (i : ℕ) → i ≤ t → (i < n + 1) ⊎ (n + 1 ≤ i) →
          k.join (k.join (join_to k f n) (join_to k (λ i. f (s + i)) n)) (f i) ≡ k.join (join_to k f n) (join_to k (λ i. f (s + i)) n)
      each i within (inl first) =
          above_through (k.join (join_to k f n) (join_to k (λ i. f (s + i)) n)) (join_to k f n) (f i)
          (laws.join_above_left (join_to k f n) (join_to k (λ i. f (s + i)) n)) (above_each f n i (omega arith))
      each i within (inr second) =
          let there : i ≡ s + (i - s) = omega arith in
          ap (λ (z : ℕ). k.join (k.join (join_to k f n) (join_to k (λ i. f (s + i)) n)) (f z)) there
          ∙ above_through (k.join (join_to k f n) (join_to k (λ i. f (s + i)) n)) (join_to k (λ i. f (s + i)) n) (f (s + (i - s)))
          (laws.join_above_right (join_to k f n) (join_to k (λ i. f (s + i)) n)) (above_each (λ i. f (s + i)) n (i - s) (omega (arith, e)))

  fold_earlier : (cells : List T) (n p s : ℕ) → fold_at k cells n (back (length cells) p s) ≡ join_to k (λ o. earlier k cells p (s + o)) n
  unfolding earlier
  fold_earlier cells n p s =
      join_to_same k (λ o. earlier k cells (back (length cells) p s) o) (λ o. earlier k cells p (s + o)) n
      (λ o l. ap (λ (i : ℕ). get_or cells i k.any) (back_back (length cells) p s o))

  later_folded : (cells : List T) (n s : ℕ) → 0 < length cells →
      later k (folded k cells n) s ≡ slots (length cells) (λ p. join_to k (λ o. earlier k cells p (s + o)) n)
  later_folded cells n s some =
      ap (λ (m : ℕ). slots m (λ p. earlier k (folded k cells n) p s)) (length_slots (length cells) (fold_at k cells n))
      ∙ slots_from_same (length cells) 0 (λ p. earlier k (folded k cells n) p s) (λ p. join_to k (λ o. earlier k cells p (s + o)) n)
      (λ p. earlier_slots k (length cells) (fold_at k cells n) p s some ∙ fold_earlier cells n p s)

  pub doubled : (cells : List T) (n s t : ℕ) → 0 < length cells → s ≤ n + 1 → t ≡ n + s →
      map (λ (p : T × T). k.join p.0 p.1) (zip (folded k cells n) (later k (folded k cells n) s)) ≡ folded k cells t
  doubled cells n s t some meet e =
      ap (λ (l : List T). map (λ (p : T × T). k.join p.0 p.1) (zip (folded k cells n) l)) (later_folded cells n s some)
      ∙ zipped_from (length cells) 0 (fold_at k cells n) (λ p. join_to k (λ o. earlier k cells p (s + o)) n) k.join
      ∙ slots_from_same (length cells) 0 (λ p. k.join (fold_at k cells n p) (join_to k (λ o. earlier k cells p (s + o)) n)) (fold_at k cells t)
      (λ p. overlap (λ o. earlier k cells p o) n s t meet e)

  -- a step of the loop
  pub doubled_step : (xs wave next : List T) (n s t : ℕ) → 0 < length xs → s ≤ n + 1 → t ≡ n + s → wave ≡ folded k xs n →
      next ≡ map (λ (q : T × T). k.join q.0 q.1) (zip wave (later k wave s)) → next ≡ folded k xs t
  doubled_step xs wave next n s t some meet e so_far made =
      made ∙ ap (λ (l : List T). map (λ (q : T × T). k.join q.0 q.1) (zip l (later k l s))) so_far ∙ doubled xs n s t some meet e
