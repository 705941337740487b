-- How many nets are on each loop, counted one net after the other.
use Rattle.std.proofs.Common.{◌≡◌, ℕ, ◌+◌, ◌<◌, ◌≤◌, inl, inr, Bool, false, cond, List, [], ◌∷◌, length, count_by, refl, sym, ap, ◌∙◌, arith, zero-add, Option, Some, None}
use Rattle.std.specs.Prelude.{slice_index_or}
use Rattle.std.specs.List.{range_with_len}
use Rattle.std.proofs.Math.ListN.{set}
use Rattle.std.proofs.lemmas.Bool.{eq-eqb, ne_eqb, cases_eq}
use Rattle.std.proofs.lemmas.List.{get_or-set_same, get_or-set_other, length-set}
use Rattle.std.proofs.lemmas.List.FromFn.{length-range_with_len}
use Rattle.std.proofs.lemmas.List.Sums.{sum_by-append, count_by-le-length}
use Rattle.vector_names.proofs.Ranges.{range_more}
use Rattle.drawing_notes.specs.Parts.{AreSizes, nets_on, part_at, same_part}

module _ (parts : List (Option ℕ)) (n : ℕ) where
  abbrev is_on : ℕ → ℕ → Bool
  is_on root j = same_part (Some root) (part_at parts j)

  on_more : (root : ℕ) → nets_on (n + 1) parts root ≡ nets_on n parts root + cond {A = ℕ} (is_on root n) 1 0
  on_more root =
      ap (count_by (is_on root)) (range_more 0 n n (omega arith)) ∙ sum_by-append (λ j. cond {A = ℕ} (is_on root j) 1 0) (range_with_len 0 n) (n ∷ [])
      ∙ ap (λ m. nets_on n parts root + m) (zero-add (cond {A = ℕ} (is_on root n) 1 0))

  pub on_few : (root : ℕ) → nets_on n parts root ≤ n
  on_few root =
      let few = count_by-le-length (is_on root) (range_with_len 0 n) in
      let long = length-range_with_len 0 n in
      omega (arith, few, long)

  pub on_other : (root : ℕ) (p : Option ℕ) → part_at parts n ≡ p → same_part (Some root) p ≡ false → nets_on (n + 1) parts root ≡ nets_on n parts root
  on_other root p is other =
      let none : cond {A = ℕ} (is_on root n) 1 0 ≡ 0 = ap (λ q. cond {A = ℕ} (same_part (Some root) q) 1 0) is ∙ ap (λ b. cond {A = ℕ} b 1 0) other in
      on_more root ∙ omega (arith, none)

  pub on_it : (root : ℕ) → part_at parts n ≡ Some root → nets_on (n + 1) parts root ≡ nets_on n parts root + 1
  on_it root is =
      let one : cond {A = ℕ} (is_on root n) 1 0 ≡ 1 = ap (λ q. cond {A = ℕ} (same_part (Some root) q) 1 0) is ∙ ap (λ b. cond {A = ℕ} b 1 0) (eq-eqb root root refl) in
      on_more root ∙ omega (arith, one)

  pub sizes_none : (sizes : List ℕ) → part_at parts n ≡ None → AreSizes n parts sizes → AreSizes (n + 1) parts sizes
  sizes_none sizes is before root below = before root below ∙ sym (on_other root None is refl)

  pub sizes_more : (sizes new : List ℕ) (part size : ℕ) → part_at parts n ≡ Some part → part < length sizes →
      size ≡ slice_index_or sizes part 0 + 1 → new ≡ set sizes part size → AreSizes n parts sizes → AreSizes (n + 1) parts new
  sizes_more sizes new part size is inside one put before root below = elim (cases_eq root part) [
    | inl same ↦
        let here : slice_index_or new root 0 ≡ slice_index_or sizes part 0 + 1 =
        ap (λ (xs : List ℕ). slice_index_or xs root 0) put ∙ ap (λ k. slice_index_or (set sizes part size) k 0) same ∙ get_or-set_same sizes part size 0 inside ∙ one in
        here ∙ ap (λ m. m + 1) (before part inside) ∙ sym (on_it part is) ∙ ap (nets_on (n + 1) parts) (sym same)
    | inr other ↦
        let old : root < length sizes = let same_length = ap length put ∙ length-set sizes part size in omega (arith, below, same_length) in
        ap (λ (xs : List ℕ). slice_index_or xs root 0) put ∙ get_or-set_other sizes part root size 0 other ∙ before root old
        ∙ sym (on_other root (Some part) is (ne_eqb root part other))
  ]

pub is_none_by : (o : Option ℕ) → ((x : ℕ) → o ≡ Some x → ⊥) → o ≡ None
is_none_by None never = refl
is_none_by (Some x) never = absurd (never x refl)
