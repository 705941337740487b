-- If a greater width is asked for no fault goes.
use Rattle.std.proofs.Common.{◌≡◌, ℕ, ◌-◌, ◌≤◌, Bool, true, false, cond, refl, ap, arith, Option, Some, None}
use Rattle.std.specs.Option.{option_map}
use Rattle.step_values.specs.declared.value.Value.{Value}
use Rattle.skew_algebra.specs.Wave.{Wave}
use Rattle.gate_eval.proofs.Found.{first_some_beyond, first_some_nowhere}
use Rattle.gate_eval.proofs.Held.{first_some_none, map_none}
use Rattle.fixpoint_engine.specs.Pins.{read}
use Rattle.pulse_check.specs.Pulse.{Slots, may_begin, may_be_wide, least_width, narrow_at, first_narrow}
use Rattle.pulse_check.specs.Faults.{fault_at, width_fault}
use Rattle.pulse_check.specs.Laws.{GreaterWidthsKeepFaults}

module _ (level : Bool) (wave : Slots) (width greater : ℕ) (most : width ≤ greater) where
  abbrev wide : ℕ → ℕ → Option ℕ
  wide a n = cond (may_be_wide level wave a n) (Some n) None

  -- the widths below the limit are among those below the greater one
  no_least : (a : ℕ) → least_width level wave greater a ≡ None → least_width level wave width a ≡ None
  no_least a none =
      first_some_beyond (wide a) (width - 1) 1 (λ n above below.
      first_some_none (wide a) (greater - 1) 1 n none above (omega (arith, most, below)))

  abbrev begun : ℕ → ℕ → ℕ × ℕ
  begun a n = (a, n)

  narrow_either : (begins : Bool) (a : ℕ) → cond begins (option_map (begun a) (least_width level wave greater a)) None ≡ None →
      cond begins (option_map (begun a) (least_width level wave width a)) None ≡ None
  narrow_either true a none =
      ap (option_map (begun a)) (no_least a (map_none (begun a) (least_width level wave greater a) none))
  narrow_either false a none = refl

  no_narrow : (period : ℕ) → first_narrow period level wave greater ≡ None → first_narrow period level wave width ≡ None
  no_narrow period none =
      first_some_nowhere (narrow_at level wave width) period 0 (λ a below.
      narrow_either (may_begin level (wave a)) a
      (first_some_none (narrow_at level wave greater) period 0 a none (omega arith) below))

pub no_width_fault : (period k : ℕ) (wave : Wave Value) (level : Bool) (width greater : ℕ) → width ≤ greater →
    width_fault period k wave level greater ≡ None → width_fault period k wave level width ≡ None
unfolding width_fault
no_width_fault period k wave level width greater most none =
    ap (option_map (fault_at k level))
    (no_narrow level (read wave.cells) width greater most period
    (map_none (fault_at k level) (first_narrow period level (read wave.cells) greater) none))

pub greater_widths_keep_faults : GreaterWidthsKeepFaults
greater_widths_keep_faults c ws k j level width greater most none = no_width_fault _ k _ level width greater most none
