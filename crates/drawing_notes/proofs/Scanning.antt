-- A search through the cells of a wave, from slot 0 over one period.
use Rattle.std.proofs.Common.{◌≡◌, ℕ, suc, ◌+◌, ◌%◌, ◌<◌, ◌||◌, Bool, true, false, List, [], ◌∷◌, length, get_or, refl, sym, ap, ◌∙◌, arith}
use Rattle.std.specs.List.{list_any}
use Rattle.std.proofs.lemmas.List.Folds.{list_any_at}
use Rattle.std.proofs.Math.Nat.{mod-eq_of_lt}
use Rattle.scald_base.proofs.Back.{back_zero}
use Rattle.wave_core.specs.Cell.{Cells}
use Rattle.wave_core.specs.Slots.{cell_round, earlier}

none_of : {T : Type 0} (p : T → Bool) (cells : List T) (d : T) →
    ((i : ℕ) → i < length cells → p (get_or cells i d) ≡ false) → list_any p cells ≡ false
none_of p [] d h = refl
none_of p (v ∷ vs) d h =
    ap (λ b. b || list_any p vs) (h 0 (omega arith))
    ∙ none_of p vs d (λ i below. h (suc i) (omega arith))

module _ {T : Type 0} (k : Cells T) (cells : List T) where
  at_round : (i : ℕ) → i < length cells → cell_round k cells (0 + i) ≡ get_or cells i k.any
  unfolding earlier
  at_round i below =
      let whole : 0 + i ≡ i = omega arith in
      ap (λ (z : ℕ). get_or cells z k.any)
      (back_zero (length cells) (0 + i) ∙ ap (λ (z : ℕ). z % length cells) whole ∙ mod-eq_of_lt below)

  module _ (p : T → Bool) (count : ℕ) (long : count ≡ length cells) where
    pub none_passes : ((place : ℕ) → place < count → false ≡ p (cell_round k cells (0 + place))) →
        false ≡ list_any p cells
    none_passes fails =
        sym (none_of p cells k.any
        (λ i below. ap p (sym (at_round i below)) ∙ sym (fails i (omega (arith, long, below)))))

    pub one_passes : (place : ℕ) → place < count → true ≡ p (cell_round k cells (0 + place)) →
        true ≡ list_any p cells
    one_passes place within passes =
        let below : place < length cells = omega (arith, long, within) in
        sym (list_any_at p cells place k.any below (ap p (sym (at_round place below)) ∙ sym passes))
