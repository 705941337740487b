-- What a search or a join says that goes round the period, of the slots of one period.
use Rattle.std.proofs.Common.{inl, inr, ◌≡◌, ◌≢◌, ℕ, zero, suc, ◌+◌, ◌-◌, ◌%◌, ◌<◌, ◌⊎◌, true, false, not, eqb, List, [], ◌∷◌, length, get_or, Some, refl, sym, ap, ◌∙◌, arith}
use Rattle.std.specs.Prelude.{slice_get}
use Rattle.std.specs.List.{list_all}
use Rattle.std.proofs.lemmas.Option.{get_or_from_slice_get}
use Rattle.std.proofs.lemmas.List.Folds.{list_all_at}
use Rattle.std.proofs.lemmas.Bool.{cases_eq, eq-eqb, ne_eqb, false_from_ne_true, not-false, not-true}
use Rattle.std.proofs.Math.Nat.{mod-eq_of_lt}
use Rattle.scald_base.specs.Clock.{back}
use Rattle.scald_base.proofs.Back.{back_zero, back_sub, back_sooner, back_later}
use Rattle.wave_core.specs.Cell.{Cells, IsLawful}
use Rattle.wave_core.specs.Slots.{SameUntil, cell_round, earlier, fold_at, join_round}
use Rattle.wave_core.proofs.Fold.{join_to_same, join_to_turned}
use Rattle.skew_algebra.specs.Wave.{cell_at, all_equal, is_steady, joined}
use Rattle.skew_algebra.proofs.Cells.{all_from}

item : {T : Type 0} (xs : List T) (i : ℕ) → i < length xs → (x : T) × (slice_get xs i ≡ Some x)
item [] i below = absurd (omega arith)
item (x ∷ xs) zero below = (x, refl)
item (x ∷ xs) (suc i) below = item xs i (omega arith)

module _ {T : Type 0} (k : Cells T) where
  -- from slot 0 on, up to the period's end
  round_at : (cells : List T) (i : ℕ) → i < length cells → cell_round k cells (0 + i) ≡ cell_at k cells i
  unfolding earlier
  round_at cells i below =
      let whole : 0 + i ≡ i = omega arith in
      ap (λ (z : ℕ). get_or cells z k.any) (back_zero (length cells) (0 + i) ∙ ap (λ (z : ℕ). z % length cells) whole ∙ mod-eq_of_lt below)

  -- no cell moves, or one does
  pub steady_none : (cells : List T) (count : ℕ) → count ≡ length cells →
      ((place : ℕ) → place < count → false ≡ not (k.quiet (cell_round k cells (0 + place)))) → true ≡ is_steady k cells
  steady_none cells count long still =
      sym (all_from k.quiet cells k.any
      (λ i below. ap k.quiet (sym (round_at cells i below)) ∙ not-false (k.quiet (cell_round k cells (0 + i))) (sym (still i (omega (arith, long, below))))))

  pub steady_not : (cells : List T) (count place : ℕ) → count ≡ length cells → place < count →
      true ≡ not (k.quiet (cell_round k cells (0 + place))) → false ≡ is_steady k cells
  steady_not cells count place long within moves =
      let below : place < length cells = omega (arith, long, within) in
      sym (list_all_at k.quiet cells place k.any below
      (ap k.quiet (sym (round_at cells place below)) ∙ not-true (k.quiet (cell_round k cells (0 + place))) (sym moves)))

  pub joined_by : (cells : List T) (count : ℕ) → count ≡ length cells → 0 < length cells → join_round k cells 0 (count - 1) ≡ joined k cells
  joined_by cells count long some =
      ap (λ (n : ℕ). join_round k cells 0 (n - 1)) long
      ∙ join_to_same k (λ i. cell_round k cells (0 + i)) (cell_at k cells) (length cells - 1) (λ i l. round_at cells i (omega (arith, l, some)))

  module _ (laws : IsLawful k) where
    -- the cell of slot 0 goes on to the period's end, or another comes
    pub equal_by : (cells : List T) (end period : ℕ) → period ≡ length cells → 0 < length cells → SameUntil cells 0 end → eqb end period ≡ all_equal k cells
    equal_by cells end period long some same = go (cases_eq end period)
      where
        first : (x : T) × (slice_get cells 0 ≡ Some x)
        first = item cells 0 some

        begins : cell_at k cells 0 ≡ first.0
        begins = get_or_from_slice_get cells 0 first.0 k.any first.1

        alike : end ≡ period → (i : ℕ) → i < length cells → k.same (cell_at k cells 0) (get_or cells i k.any) ≡ true
        alike e i below =
            let here : slice_get cells i ≡ Some first.0 = same.same i (omega arith) (omega (arith, e, long, below)) ∙ first.1 in
            let is : get_or cells i k.any ≡ cell_at k cells 0 = get_or_from_slice_get cells i first.0 k.any here ∙ sym begins in
            ap (k.same (cell_at k cells 0)) is ∙ laws.same_self (cell_at k cells 0)

        differs : end < length cells → list_all (k.same (cell_at k cells 0)) cells ≡ false
        differs below =
            let next = item cells end below in
            let is : get_or cells end k.any ≡ next.0 = get_or_from_slice_get cells end next.0 k.any next.1 in
            list_all_at (k.same (cell_at k cells 0)) cells end k.any below
            (false_from_ne_true (k.same (cell_at k cells 0) (get_or cells end k.any))
            (λ h. let one : first.0 ≡ next.0 = sym begins ∙ laws.same_is (cell_at k cells 0) (get_or cells end k.any) h ∙ is in
            same.other below (next.1 ∙ ap Some (sym one) ∙ sym first.1)))

        go : ((end ≡ period) ⊎ (end ≢ period)) → eqb end period ≡ all_equal k cells
        go (inl e) = eq-eqb end period e ∙ sym (all_from (k.same (cell_at k cells 0)) cells k.any (alike e))
        go (inr ne) = ne_eqb end period ne ∙ sym (differs (let within = same.within in omega (arith, within, long, ne)))

    -- the slots from the earliest that may show in a slot up to it
    pub fold_by : (cells : List T) (period slot skew : ℕ) → period ≡ length cells → slot < length cells → skew < length cells →
        join_round k cells ((slot + (period - skew)) % period) (skew + 1 - 1) ≡ fold_at k cells skew slot
    unfolding earlier
    fold_by cells period slot skew long inside short =
        let small : skew % length cells ≡ skew = mod-eq_of_lt short in
        let first : (slot + (period - skew)) % period ≡ back (length cells) slot skew =
        ap (λ (z : ℕ). (slot + (z - skew)) % z) long
        ∙ ap (λ (z : ℕ). (slot + (length cells - z)) % length cells) (sym small)
        ∙ back_sub (length cells) slot skew (omega (arith, inside)) in
        let n : skew + 1 - 1 ≡ skew = omega arith in
        (λ i. join_round k cells (first i) (n i))
        ∙ join_to_same k (λ i. cell_round k cells (back (length cells) slot skew + i)) (λ i. earlier k cells slot (skew - i)) skew
        (λ i l.
        let whole : skew + 0 ≡ i + (skew - i) = omega (arith, l) in
        ap (λ (z : ℕ). get_or cells z k.any)
        (back_sooner (length cells) slot skew i 0 ∙ ap (back (length cells) (slot + i)) whole
        ∙ back_later (length cells) slot i (skew - i) (omega (arith, inside))))
        ∙ join_to_turned k laws (λ o. earlier k cells slot o) skew
