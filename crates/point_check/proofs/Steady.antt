-- An input that never changes makes no fault.
use Rattle.std.proofs.Common.{◌≡◌, ℕ, zero, suc, ◌<◌, Bool, true, false, cond, List, length, refl, sym, arith, Option, Some, None}
use Rattle.scald_base.specs.Clock.{back}
use Rattle.scald_base.proofs.Back.{back_lt}
use Rattle.step_values.specs.declared.value.Value.{Value}
use Rattle.step_values.specs.declared.value.Value.TheVariants.{U}
use Rattle.step_values.specs.Steps.{has, is_quiet, join}
use Rattle.step_values.specs.Cell.{values}
use Rattle.wave_core.specs.Slots.{earlier, join_to}
use Rattle.skew_algebra.specs.Wave.{Wave, fold, is_steady}
use Rattle.skew_algebra.proofs.Cells.{all_at}
use Rattle.element_kinds.specs.declared.kind.Kind.{Kind}
use Rattle.flat_circuit.specs.declared.fault.Fault.{Fault}
use Rattle.flat_circuit.specs.declared.limits.Limits.{Limits}
use Rattle.point_check.specs.declared.window.Window.{Window}
use Rattle.point_check.specs.Window.{slot_at, window_fault}
use Rattle.point_check.specs.Point.{window_of, checker_fault}
use Rattle.point_check.proofs.Found.{no_mover, first_mover_nowhere, no_window_fault, first_fault_nowhere}

join_quiet : (v w : Value) → is_quiet v ≡ true → is_quiet w ≡ true → is_quiet (join v w) ≡ true
join_quiet v w q r = grind arith

join_to_quiet : (f : ℕ → Value) (n : ℕ) → ((i : ℕ) → is_quiet (f i) ≡ true) → is_quiet (join_to values f n) ≡ true
join_to_quiet f zero quiet = quiet 0
join_to_quiet f (suc n) quiet = join_quiet (join_to values f n) (f (suc n)) (join_to_quiet f n quiet) (quiet (suc n))

earlier_quiet : (cells : List Value) (t o : ℕ) → 0 < length cells → is_steady values cells ≡ true → is_quiet (earlier values cells t o) ≡ true
unfolding earlier
earlier_quiet cells t o some steady = all_at is_quiet cells (back (length cells) t o) U steady (back_lt (length cells) t o some)

fold_quiet : (w : Wave Value) (s : ℕ) → 0 < length w.cells → is_steady values w.cells ≡ true → is_quiet (fold values w s) ≡ true
fold_quiet w s some steady = join_to_quiet (λ o. earlier values w.cells s o) w.skew (λ o. earlier_quiet w.cells s o some steady)

none_anyway : (b : Bool) (o : Option Fault) → o ≡ None → cond b o None ≡ None
none_anyway true o none = none
none_anyway false o none = refl

pub still_input : (kind : Kind) (p k : ℕ) (clock input : Wave Value) (limits : Limits) → 0 < length input.cells → is_steady values input.cells ≡ true →
    None ≡ checker_fault kind p k clock input limits
unfolding checker_fault
still_input kind p k clock input limits some steady =
    first_fault_nowhere kind p k (fold values clock) (fold values input) limits
    (λ s below. none_anyway (has (fold values clock s) false true) (window_fault p k (fold values input) s (window_of kind p (fold values clock) limits s))
    (by s (window_of kind p (fold values clock) limits s)))
  where
    by : (s : ℕ) (window : Option Window) → window_fault p k (fold values input) s window ≡ None
    by s None = refl
    by s (Some w) =
        sym (no_window_fault p k (fold values input) w s (first_mover_nowhere p (fold values input) w s
        (λ place below. no_mover p (fold values input) w s place (fold values input (slot_at p w s place)) refl (fold_quiet input (slot_at p w s place) some steady))))
