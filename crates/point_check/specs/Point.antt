-- Faults of the checkers that hold an input against the edges of a clock.
use Rattle.std.specs.Prelude.{ℕ, zero, suc, ◌+◌, Bool, true, false, is_some, Option, Some, None, if◌then◌else◌}
use Rattle.step_values.specs.declared.value.Value.{Value}
use Rattle.step_values.specs.Steps.{has}
use Rattle.step_values.specs.Cell.{values}
use Rattle.skew_algebra.specs.Wave.{Wave, fold}
use Rattle.element_kinds.specs.declared.kind.Kind.{Kind}
use Rattle.element_kinds.specs.declared.form.Check.{Check}
use Rattle.element_kinds.specs.declared.form.Check.TheVariants.{SetupHold as AboutRise, RiseFall as RiseToFall, MinPulse as Widths}
use Rattle.element_kinds.specs.Kinds.{check_of}
use Rattle.flat_circuit.specs.Limits.{setup_of, hold_of}
use Rattle.flat_circuit.specs.declared.fault.Fault.{Fault}
use Rattle.flat_circuit.specs.declared.limits.Limits.{Limits}
use Rattle.gate_eval.specs.Hold.{first_some}
use Rattle.point_check.specs.declared.window.Window.{Window}
use Rattle.point_check.specs.Window.{Folds, window_fault}

-- ---- how long the clock may be high after a rise at slot t

-- The least j of 1 to p at which the clock can not stay at 1, j slots after t: by then it has
-- fallen.
abbrev pub first_low : ℕ → Folds → ℕ → Option ℕ
first_low p clock t = first_some (λ j. if has (clock (t + j)) true true then None else Some j) p 1

-- the greatest of 1 to n that passes
abbrev pub last_to : (ℕ → Bool) → ℕ → Option ℕ
last_to test zero = None
last_to test (suc n) = if test (suc n) then Some (suc n) else last_to test n

-- the greatest j of 1 to m at which it may fall
abbrev pub last_fall : Folds → ℕ → ℕ → Option ℕ
last_fall clock t m = last_to (λ j. has (clock (t + j)) true false) m

-- whether it may fall in some slot
abbrev pub falls_somewhere : ℕ → Folds → Bool
falls_somewhere p clock =
    is_some (first_some (λ s. if has (clock s) true false then Some s else None) p 0)

-- ---- windows

-- before the edge, and after it, so many ticks
abbrev pub about : Limits → Window
about limits = record { setup = setup_of limits; high = 0; hold = hold_of limits }

-- from before the rise to after the last fall; none if no fall comes
abbrev pub to_last_fall : Limits → Option ℕ → Option Window
to_last_fall limits None = None
to_last_fall limits (Some high) =
    Some (record { setup = setup_of limits; high = high; hold = hold_of limits })

-- The clock may stay at 1 in every slot: then every slot is of the window, if a fall may come at
-- all.
abbrev pub all_round : ℕ → Limits → Bool → Option Window
all_round p limits falls =
    if falls then Some (record { setup = setup_of limits; high = p; hold = 0 }) else None

abbrev pub high_window_to : ℕ → Folds → Limits → ℕ → Option ℕ → Option Window
high_window_to p clock limits t (Some m) = to_last_fall limits (last_fall clock t m)
high_window_to p clock limits t None = all_round p limits (falls_somewhere p clock)

abbrev pub high_window : ℕ → Folds → Limits → ℕ → Option Window
high_window p clock limits t = high_window_to p clock limits t (first_low p clock t)

-- the window of a rise at slot t, by what a checker with these limits checks
abbrev pub window_by : Check → ℕ → Folds → Limits → ℕ → Option Window
window_by AboutRise p clock limits t = Some (about limits)
window_by RiseToFall p clock limits t = high_window p clock limits t
window_by Widths p clock limits t = None

-- that of what is checked, if anything is
abbrev pub window_if : Option Check → ℕ → Folds → Limits → ℕ → Option Window
window_if None p clock limits t = None
window_if (Some check) p clock limits t = window_by check p clock limits t

-- the window of a rise at slot t, for a checker of each kind with these limits
abbrev pub window_of : Kind → ℕ → Folds → Limits → ℕ → Option Window
window_of kind p clock limits t = window_if (check_of kind) p clock limits t

-- ---- the fault

-- what an edge at slot t makes, if the clock may rise there
abbrev pub edge_fault : Kind → ℕ → ℕ → Folds → Folds → Limits → ℕ → Option Fault
edge_fault kind p k clock input limits t =
    if has (clock t) false true then window_fault p k input t (window_of kind p clock limits t)
    else None

-- the first
abbrev pub first_fault : Kind → ℕ → ℕ → Folds → Folds → Limits → Option Fault
first_fault kind p k clock input limits = first_some (edge_fault kind p k clock input limits) p 0

-- the fault of checker k, of this kind and with these limits, in a period of p slots, by the waves
-- at its clock and its input
unfoldable pub checker_fault : Kind → ℕ → ℕ → Wave Value → Wave Value → Limits → Option Fault
checker_fault kind p k clock input limits =
    first_fault kind p k (fold values clock) (fold values input) limits
