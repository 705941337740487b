-- The wide wave of an assertion is that of the same in units of one tick.
use Rattle.std.proofs.Common.{◌≡◌, ℕ, ◌+◌, ◌-◌, ◌%◌, ◌<◌, min, Bool, List, [], ap, ◌∙◌, if◌then◌else◌}
use Rattle.scald_base.specs.Clock.{back, ideal}
use Rattle.scald_base.specs.Fitting.{skew_of}
use Rattle.scald_base.specs.Quiet.{quiet}
use Rattle.scald_base.specs.Time.{Header, period}
use Rattle.scald_base.specs.declared.assertion.AssertSpec.{AssertSpec}
use Rattle.scald_base.specs.declared.assertion.AssertSpec.TheVariants.{None as Unasserted, Precision, Clock, Stable}
use Rattle.scald_base.specs.declared.assertion.ClockSpec.{ClockSpec}
use Rattle.scald_base.specs.declared.assertion.Span.{Span}
use Rattle.step_values.specs.declared.value.Value.{Value}
use Rattle.step_values.specs.declared.value.Value.TheVariants.{C, S}
use Rattle.step_values.specs.Cell.{values}
use Rattle.wave_core.specs.Slots.{slots}
use Rattle.skew_algebra.specs.Wave.{Wave, cell_at, folded, normal, skewed}
use Rattle.pin_waves.specs.Interface.{asserted_wave, clock_wave, ideal_slots, precision_wave, skewed_clock, sooner, stable_wave, step_value, wide_wave}
use Rattle.point_check.specs.Break.{Asserts, wide_at}
use Rattle.narrowing.specs.Narrowed.{fine_clock, fine_header, fine_spans, fine_spec}
use Rattle.narrowing.proofs.Fine.{fine_period, ideal_fine, quiet_fine, same_function}

module _ (h : Header) (some : 0 < h.ticks) where
  -- ---- clocks

  ideal_slots_fine : (clock : ClockSpec) → ideal_slots (fine_header h) (fine_clock h clock) ≡ ideal_slots h clock
  ideal_slots_fine clock =
      ap (λ (n : ℕ). slots n (λ p. step_value (ideal (fine_clock h clock) (fine_header h) (back n p 1))
      (ideal (fine_clock h clock) (fine_header h) p))) (fine_period h)
      ∙ ap (λ (shows : ℕ → Bool). slots (period h) (λ p. step_value (shows (back (period h) p 1)) (shows p)))
      (same_function (ideal (fine_clock h clock) (fine_header h)) (ideal clock h) (λ t. ideal_fine h clock t some))

  skewed_clock_fine : (clock : ClockSpec) (skew : ℕ × ℕ) →
      skewed_clock (fine_header h) (fine_clock h clock) skew ≡ skewed_clock h clock skew
  skewed_clock_fine clock skew =
      ap (λ (cells : List Value). skewed (sooner cells skew.0) (min (skew.0 + skew.1) (period (fine_header h) - 1)))
      (ideal_slots_fine clock)
      ∙ ap (λ (n : ℕ). skewed (sooner (ideal_slots h clock) skew.0) (min (skew.0 + skew.1) (n - 1))) (fine_period h)

  precision_wave_fine : (clock : ClockSpec) → precision_wave (fine_header h) (fine_clock h clock) ≡ precision_wave h clock
  precision_wave_fine clock = skewed_clock_fine clock (skew_of clock h.pskew)

  clock_wave_fine : (clock : ClockSpec) → clock_wave (fine_header h) (fine_clock h clock) ≡ clock_wave h clock
  clock_wave_fine clock =
      ap (λ (w : Wave Value). skewed (folded values w) 0) (skewed_clock_fine clock (skew_of clock h.cskew))

  -- ---- stable nets

  stable_wave_fine : (spans : List Span) → stable_wave (fine_header h) (fine_spans h spans) ≡ stable_wave h spans
  stable_wave_fine spans =
      ap (λ (n : ℕ). skewed (slots n (λ p. if quiet (fine_spans h spans) (fine_header h) p then S else C)) 0) (fine_period h)
      ∙ ap (λ (still : ℕ → Bool). skewed (slots (period h) (λ p. if still p then S else C)) 0)
      (same_function (quiet (fine_spans h spans) (fine_header h)) (quiet spans h) (λ p. quiet_fine h spans p some))

  -- ---- any assertion

  asserted_wave_fine : (spec : AssertSpec) → asserted_wave (fine_header h) (fine_spec h spec) ≡ asserted_wave h spec
  asserted_wave_fine Unasserted = stable_wave_fine []
  asserted_wave_fine (Precision clock) = precision_wave_fine clock
  asserted_wave_fine (Clock clock) = clock_wave_fine clock
  asserted_wave_fine (Stable spans) = stable_wave_fine spans

  wide_wave_fine : (spec : AssertSpec) → wide_wave (fine_header h) (fine_spec h spec) ≡ wide_wave h spec
  wide_wave_fine spec = ap (λ (w : Wave Value). folded values (normal values w)) (asserted_wave_fine spec)

  pub wide_at_fine : (spec : AssertSpec) (t : ℕ) → wide_at (fine_header h) (fine_spec h spec) t ≡ wide_at h spec t
  wide_at_fine spec t =
      ap (λ (cells : List Value). cell_at values cells (t % period (fine_header h))) (wide_wave_fine spec)
      ∙ ap (λ (n : ℕ). cell_at values (wide_wave h spec) (t % n)) (fine_period h)

pub asserts_fine : (h : Header) (spec : AssertSpec) → Asserts spec → Asserts (fine_spec h spec)
asserts_fine h Unasserted asserts = asserts
asserts_fine h (Precision clock) asserts = asserts
asserts_fine h (Clock clock) asserts = asserts
asserts_fine h (Stable spans) asserts = asserts
