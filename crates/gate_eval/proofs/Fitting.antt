-- The waves of the pins of one element: all of one period, and in normal form.
use Rattle.std.proofs.Common.{◌≡◌, ℕ, ◌-◌, ◌%◌, ◌<◌, ◌≤◌, true, List, [], ◌∷◌, length, get_or, sym, ap, ◌∙◌, arith}
use Rattle.std.specs.List.{AllByRecursion}
use Rattle.std.proofs.lemmas.Slice.Zip.{AllZip-long}
use Rattle.scald_base.specs.Signal.{Signal}
use Rattle.scald_base.specs.Clock.{back}
use Rattle.wave_core.specs.Cell.{Cells, IsLawful}
use Rattle.wave_core.specs.Slots.{earlier}
use Rattle.skew_algebra.specs.Wave.{Wave, IsNormal, cell_at, fold, is_steady}
use Rattle.skew_algebra.specs.Permits.{Permits}
use Rattle.skew_algebra.proofs.Cells.{equal_at}
use Rattle.skew_algebra.proofs.Moves.{fold_at_mod, fold_has}
use Rattle.scald_base.proofs.Back.{back_lt}
use Rattle.gate_eval.specs.Meeting.{folds_in}
use Rattle.gate_eval.specs.Permitted.{AllPermit, AllHave}

-- a wave of this period, in normal form
pub record Fits {T : Type 0} (k : Cells T) (period : ℕ) (w : Wave T) : Type 0 where
  pub long : length w.cells ≡ period
  pub normal : IsNormal k w

abbrev pub AllFit : {T : Type 0} → Cells T → ℕ → List (Wave T) → Type 0
AllFit k period waves = AllByRecursion (Fits k period) waves

module _ {T : Type 0} (k : Cells T) where
  -- as many waves as signals, and as many cells
  pub as_many_waves : (waves : List (Wave T)) (n : ℕ) (xs : List Signal) (v : ℕ) → AllPermit k waves n xs v → length waves ≡ length xs
  as_many_waves waves n xs v ps = sym (AllZip-long (λ w (x : Signal). Permits k w n x v) waves xs ps)

  pub as_many_cells : (cells : List T) (xs : List Signal) (t : ℕ) → AllHave k cells xs t → length cells ≡ length xs
  as_many_cells cells xs t hs = sym (AllZip-long (λ c (x : Signal). k.has c (x (t - 1)) (x t) ≡ true) cells xs hs)

  -- the cell of a slot that is o slots before slot t
  pub cell_back : (period : ℕ) (w : Wave T) (t o : ℕ) → length w.cells ≡ period → cell_at k w.cells (back period t o) ≡ earlier k w.cells t o
  unfolding earlier
  cell_back period w t o long = ap (λ (n : ℕ). get_or w.cells (back n t o) k.any) (sym long)

  pub fold_mod : (period : ℕ) (w : Wave T) (t : ℕ) → length w.cells ≡ period → fold k w (t % period) ≡ fold k w t
  fold_mod period w t long = ap (λ (n : ℕ). fold k w (t % n)) (sym long) ∙ fold_at_mod k w.cells w.skew t

  module _ (laws : IsLawful k) where
    -- the folds of a slot have each step of its ticks
    pub folds_have : (period : ℕ) (waves : List (Wave T)) (n : ℕ) (xs : List Signal) (v t : ℕ) → AllFit k period waves → AllPermit k waves n xs v →
        1 ≤ t → v ≤ t → t < n → AllHave k (folds_in k waves (t % period)) xs t
    folds_have period [] n [] v t fits ps t1 tv tn = tt
    folds_have period [] n (x ∷ xs) v t fits ps t1 tv tn = absurd ps
    folds_have period (w ∷ ws) n [] v t fits ps t1 tv tn = absurd ps
    folds_have period (w ∷ ws) n (x ∷ xs) v t fits ps t1 tv tn = (
      ap (λ c. k.has c (x (t - 1)) (x t)) (fold_mod period w t fits.0.long) ∙ fold_has k laws w n v t x ps.0 t1 tv tn,
      folds_have period ws n xs v t fits.1 ps.1 t1 tv tn,
    )

    -- in a steady wave any offset serves
    pub steady_has : (period : ℕ) (w : Wave T) (n : ℕ) (x : Signal) (v t o : ℕ) → 0 < period → is_steady k w.cells ≡ true → Fits k period w →
        Permits k w n x v → 1 ≤ t → v ≤ t → t < n → k.has (cell_at k w.cells (back period t o)) (x (t - 1)) (x t) ≡ true
    steady_has period w n x v t o some quiet fits p t1 tv tn =
        let long : length w.cells ≡ period = fits.long in
        let here : back period t o < period = back_lt period t o some in
        let there : back period t p.offset < period = back_lt period t p.offset some in
        let same : cell_at k w.cells (back period t o) ≡ cell_at k w.cells (back period t p.offset) =
        equal_at k laws w.cells (back period t o) (back period t p.offset) (fits.normal.steady quiet) (omega arith) (omega arith) in
        ap (λ c. k.has c (x (t - 1)) (x t)) (same ∙ cell_back period w t p.offset long) ∙ p.steps t t1 tv tn
