-- The slots about an edge of a clock in which an input is to be quiet, and the first in which it is
-- not.
use Rattle.std.specs.Prelude.{ℕ, ◌+◌, nat_lt, Option, Some, None, if◌then◌else◌}
use Rattle.std.specs.Option.{option_map}
use Rattle.scald_base.specs.Clock.{back}
use Rattle.step_values.specs.declared.value.Value.{Value}
use Rattle.step_values.specs.Steps.{is_quiet, letter_of}
use Rattle.flat_circuit.specs.declared.fault.PointKind.{PointKind}
use Rattle.flat_circuit.specs.declared.fault.PointKind.TheVariants.{Setup, High, Hold}
use Rattle.flat_circuit.specs.declared.fault.Fault.{Fault}
use Rattle.flat_circuit.specs.declared.fault.Fault.TheVariants.{Point}
use Rattle.gate_eval.specs.Hold.{first_some}
use Rattle.point_check.specs.declared.window.Window.{Window}

-- what a pin may do in each slot, however late it comes: its folds, read round the period
abbrev pub Folds : Type 0
Folds = ℕ → Value

-- how many places a window has
abbrev pub places : Window → ℕ
places w = w.setup + w.high + w.hold

-- The slot at a place, from 0, of the window of an edge at slot t: from t - setup + 1 on, round the
-- period.
abbrev pub slot_at : ℕ → Window → ℕ → ℕ → ℕ
slot_at p w t place = back p (t + 1 + place) w.setup

-- Up to the edge a place is of the setup time, then of the time while the clock may be high, and
-- then of the hold time.
abbrev pub kind_at : Window → ℕ → PointKind
kind_at w place =
    if nat_lt place w.setup then Setup else if nat_lt place (w.setup + w.high) then High else Hold

-- the place, if the input may change there
abbrev pub mover_at : ℕ → Folds → Window → ℕ → ℕ → Option ℕ
mover_at p input w t place = if is_quiet (input (slot_at p w t place)) then None else Some place

-- the first such place
abbrev pub first_mover : ℕ → Folds → Window → ℕ → Option ℕ
first_mover p input w t = first_some (mover_at p input w t) (places w) 0

-- the fault of instance k that an input makes at a place
abbrev pub fault_at : ℕ → ℕ → Folds → Window → ℕ → ℕ → Fault
fault_at p k input w t place =
    Point (kind_at w place) k t (slot_at p w t place) (letter_of (input (slot_at p w t place)))

-- the fault of an edge at slot t that has this window, or none
abbrev pub window_fault : ℕ → ℕ → Folds → ℕ → Option Window → Option Fault
window_fault p k input t None = None
window_fault p k input t (Some w) = option_map (fault_at p k input w t) (first_mover p input w t)
