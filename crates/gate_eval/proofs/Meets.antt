-- What an element makes of its pins' waves permits what it makes of their signals.
use Rattle.std.proofs.Common.{◌≡◌, ℕ, ◌-◌, ◌%◌, ◌<◌, ◌≤◌, true, List, length, refl, ap, ◌∙◌, Option, Some, None, arith}
use Rattle.scald_base.specs.Signal.{Signal}
use Rattle.scald_base.specs.Clock.{back}
use Rattle.wave_core.specs.Cell.{Cells, IsLawful}
use Rattle.scald_base.proofs.Back.{back_zero}
use Rattle.wave_core.proofs.Slots.{length_slots, earlier_slots}
use Rattle.skew_algebra.specs.Wave.{Wave}
use Rattle.skew_algebra.specs.Permits.{Permits}
use Rattle.gate_eval.specs.Meeting.{cells_in, folds_in, movers, kept_skew, period_of, meeting_by, meeting}
use Rattle.gate_eval.specs.Permitted.{AllPermit, AllHave}
use Rattle.gate_eval.proofs.Fitting.{AllFit, folds_have}
use Rattle.gate_eval.proofs.Movers.{OneOffset, one_offset}

-- Whatever steps the pins make at a tick, the image of cells that have them has the step of z.
abbrev pub Makes : {T : Type 0} → Cells T → (List T → T) → ℕ → List Signal → ℕ → Signal → Type 0
Makes {T} k image n xs v z = (t : ℕ) → 1 ≤ t → v ≤ t → t < n → (cells : List T) → AllHave k cells xs t → k.has (image cells) (z (t - 1)) (z t) ≡ true

module _ {T : Type 0} (k : Cells T) (image : List T → T) where
  pub length_meeting_by : (waves : List (Wave T)) (kept : Option ℕ) → length (meeting_by k image waves kept).cells ≡ period_of waves
  length_meeting_by waves (Some skew) = length_slots (period_of waves) (λ p. image (cells_in k waves p))
  length_meeting_by waves None = length_slots (period_of waves) (λ p. image (folds_in k waves p))

  pub length_meeting : (waves : List (Wave T)) → length (meeting k image waves).cells ≡ period_of waves
  unfolding meeting
  length_meeting waves = length_meeting_by waves (kept_skew (movers k waves))

  module _ (laws : IsLawful k) where
    Permits_meeting_by : (waves : List (Wave T)) (kept : Option ℕ) (n : ℕ) (xs : List Signal) (v : ℕ) (z : Signal) → kept_skew (movers k waves) ≡ kept →
        0 < period_of waves → AllFit k (period_of waves) waves → AllPermit k waves n xs v → Makes k image n xs v z →
        Permits k (meeting_by k image waves kept) n z v
    Permits_meeting_by waves (Some skew) n xs v z is some fits ps makes =
        let period : ℕ = period_of waves in
        let one : OneOffset k (period_of waves) waves n xs v skew = one_offset k laws (period_of waves) waves n xs v skew some is fits ps in
        record {
          offset = one.offset;
          within = one.within;
          steps = λ t t1 tv tn.
              ap (λ c. k.has c (z (t - 1)) (z t)) (earlier_slots k (period_of waves) (λ p. image (cells_in k waves p)) t one.offset some)
              ∙ makes t t1 tv tn (cells_in k waves (back (period_of waves) t one.offset)) (one.steps t t1 tv tn);
        }
    Permits_meeting_by waves None n xs v z is some fits ps makes =
        record {
          offset = 0;
          within = omega arith;
          steps = λ t t1 tv tn.
              ap (λ c. k.has c (z (t - 1)) (z t))
              (earlier_slots k (period_of waves) (λ p. image (folds_in k waves p)) t 0 some ∙ ap (λ (p : ℕ). image (folds_in k waves p)) (back_zero (period_of waves) t))
              ∙ makes t t1 tv tn (folds_in k waves (t % period_of waves)) (folds_have k laws (period_of waves) waves n xs v t fits ps t1 tv tn);
        }

    pub Permits_meeting : (waves : List (Wave T)) (n : ℕ) (xs : List Signal) (v : ℕ) (z : Signal) →
        0 < period_of waves → AllFit k (period_of waves) waves → AllPermit k waves n xs v → Makes k image n xs v z →
        Permits k (meeting k image waves) n z v
    unfolding meeting
    Permits_meeting waves n xs v z some fits ps makes =
        Permits_meeting_by waves (kept_skew (movers k waves)) n xs v z refl some fits ps makes
