-- One offset for all pins, if at most one of them moves.
use Rattle.std.proofs.Common.{◌≡◌, ℕ, ◌-◌, ◌<◌, ◌≤◌, Bool, true, false, not, List, [], ◌∷◌, refl, sym, ap, ◌∙◌, cond, Some, arith}
use Rattle.scald_base.specs.Signal.{Signal}
use Rattle.scald_base.specs.Clock.{back}
use Rattle.wave_core.specs.Cell.{Cells, IsLawful}
use Rattle.skew_algebra.specs.Wave.{Wave, is_steady}
use Rattle.gate_eval.specs.Meeting.{cells_in, movers, kept_skew}
use Rattle.gate_eval.specs.Permitted.{AllPermit, AllHave}
use Rattle.gate_eval.proofs.Fitting.{AllFit, cell_back, steady_has}

-- an offset within the skew, at which the cells of all pins have each step
pub record OneOffset {T : Type 0} (k : Cells T) (period : ℕ) (waves : List (Wave T)) (n : ℕ) (xs : List Signal) (v skew : ℕ) : Type 0 where
  pub offset : ℕ
  pub within : offset ≤ skew
  pub steps : (t : ℕ) → 1 ≤ t → v ≤ t → t < n → AllHave k (cells_in k waves (back period t offset)) xs t

module _ {T : Type 0} (k : Cells T) where
  pub movers_steady : (w : Wave T) (ws : List (Wave T)) → is_steady k w.cells ≡ true → movers k (w ∷ ws) ≡ movers k ws
  movers_steady w ws quiet = ap (λ b. cond (not b) (w ∷ movers k ws) (movers k ws)) quiet

  pub movers_moving : (w : Wave T) (ws : List (Wave T)) → is_steady k w.cells ≡ false → movers k (w ∷ ws) ≡ w ∷ movers k ws
  movers_moving w ws moves = ap (λ b. cond (not b) (w ∷ movers k ws) (movers k ws)) moves

pub kept_one : {T : Type 0} (w : Wave T) (ms : List (Wave T)) (skew : ℕ) → kept_skew (w ∷ ms) ≡ Some skew → (ms ≡ []) × (w.skew ≡ skew)
kept_one w [] skew e = (refl, cc)
kept_one w (m ∷ ms) skew e = cc

module _ {T : Type 0} (k : Cells T) (laws : IsLawful k) where
  -- if no wave moves, any offset serves
  still_have : (period : ℕ) (waves : List (Wave T)) (n : ℕ) (xs : List Signal) (v t o : ℕ) → 0 < period → movers k waves ≡ [] → AllFit k period waves →
      AllPermit k waves n xs v → 1 ≤ t → v ≤ t → t < n → AllHave k (cells_in k waves (back period t o)) xs t
  still_have period [] n [] v t o some none fits ps t1 tv tn = tt
  still_have period [] n (x ∷ xs) v t o some none fits ps t1 tv tn = absurd ps
  still_have period (w ∷ ws) n [] v t o some none fits ps t1 tv tn = absurd ps
  still_have period (w ∷ ws) n (x ∷ xs) v t o some none fits ps t1 tv tn = by (is_steady k w.cells) refl
      (λ rest. still_have period ws n xs v t o some rest fits.1 ps.1 t1 tv tn)
    where
      by : (b : Bool) → is_steady k w.cells ≡ b → (movers k ws ≡ [] → AllHave k (cells_in k ws (back period t o)) xs t) →
          AllHave k (cells_in k (w ∷ ws) (back period t o)) (x ∷ xs) t
      by true quiet go =
          (steady_has k laws period w n x v t o some quiet fits.0 ps.0 t1 tv tn, go (sym (movers_steady k w ws quiet) ∙ none))
      by false moves go = let two : w ∷ movers k ws ≡ [] = sym (movers_moving k w ws moves) ∙ none in cc

  pub one_offset : (period : ℕ) (waves : List (Wave T)) (n : ℕ) (xs : List Signal) (v skew : ℕ) → 0 < period → kept_skew (movers k waves) ≡ Some skew →
      AllFit k period waves → AllPermit k waves n xs v → OneOffset k period waves n xs v skew
  one_offset period [] n [] v skew some kept fits ps = record { offset = 0; within = omega arith; steps = λ t t1 tv tn. tt }
  one_offset period [] n (x ∷ xs) v skew some kept fits ps = absurd ps
  one_offset period (w ∷ ws) n [] v skew some kept fits ps = absurd ps
  one_offset period (w ∷ ws) n (x ∷ xs) v skew some kept fits ps = by (is_steady k w.cells) refl
      (λ rest. one_offset period ws n xs v skew some rest fits.1 ps.1)
    where
      by : (b : Bool) → is_steady k w.cells ≡ b → (kept_skew (movers k ws) ≡ Some skew → OneOffset k period ws n xs v skew) →
          OneOffset k period (w ∷ ws) n (x ∷ xs) v skew
      by true quiet go =
          let r : OneOffset k period ws n xs v skew = go (ap kept_skew (sym (movers_steady k w ws quiet)) ∙ kept) in
          record {
            offset = r.offset;
            within = r.within;
            steps = λ t t1 tv tn. (steady_has k laws period w n x v t r.offset some quiet fits.0 ps.0 t1 tv tn, r.steps t t1 tv tn);
          }
      by false moves go =
          let one : (movers k ws ≡ []) × (w.skew ≡ skew) =
          kept_one w (movers k ws) skew (ap kept_skew (sym (movers_moving k w ws moves)) ∙ kept) in
          let skew_is : w.skew ≡ skew = one.1 in
          record {
            offset = ps.0.offset;
            within = let near : ps.0.offset ≤ w.skew = ps.0.within in omega arith;
            steps = λ t t1 tv tn. (
              ap (λ c. k.has c (x (t - 1)) (x t)) (cell_back k period w t ps.0.offset fits.0.long) ∙ ps.0.steps t t1 tv tn,
              still_have period ws n xs v t ps.0.offset some one.0 fits.1 ps.1 t1 tv tn,
            );
          }
