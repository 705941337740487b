-- The change function: its output may change only if some pin may have changed, within the
-- bounds of its delay before.
use Rattle.std.specs.Prelude.{ℕ, zero, suc, ◌+◌, ◌-◌, Bool, not, ◌&&◌, List, if◌then◌else◌}
use Rattle.std.specs.List.{list_all}
use Rattle.scald_base.specs.Clock.{back}
use Rattle.scald_base.specs.Time.{Bounds}
use Rattle.wave_core.specs.Slots.{slots}
use Rattle.step_values.specs.declared.value.Value.{Value}
use Rattle.step_values.specs.declared.value.Value.TheVariants.{S, C, U}
use Rattle.step_values.specs.Steps.{is_quiet, is_unknown}
use Rattle.step_values.specs.Cell.{values}
use Rattle.skew_algebra.specs.Wave.{Wave, skewed}
use Rattle.gate_eval.specs.Meeting.{folds_in, period_of}

-- f 0 to f n all hold
abbrev pub all_to : (ℕ → Bool) → ℕ → Bool
all_to f zero = f 0
all_to f (suc n) = all_to f n && f (suc n)

-- at the slots p - d.max to p - d.min the folds of all pins pass the test
abbrev pub pass_before : (Value → Bool) → List (Wave Value) → Bounds → ℕ → Bool
pass_before test waves d p =
    all_to (λ i. list_all test (folds_in values waves (back (period_of waves) p (d.min + i))))
    (d.max - d.min)

abbrev pub is_known : Value → Bool
is_known v = not (is_unknown v)

-- S if all of these folds are quiet, U if one of them is U, and else C
abbrev pub change_at : List (Wave Value) → Bounds → ℕ → Value
change_at waves d p =
    if pass_before is_quiet waves d p then S else if pass_before is_known waves d p then C else U

-- that in each slot, the delay counted in
unfoldable pub change_wave : List (Wave Value) → Bounds → Wave Value
change_wave waves d = skewed (slots (period_of waves) (change_at waves d)) 0
