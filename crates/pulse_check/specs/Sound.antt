-- What it is worth that a checker has no fault of its pulses' widths.
use Rattle.std.specs.Prelude.{◌≡◌, ℕ, ◌&&◌, ◌==◌, Bool, false, not, List, if◌then◌else◌}
use Rattle.std.specs.List.{list_any}
use Rattle.flat_circuit.specs.declared.fault.Fault.{Fault}
use Rattle.flat_circuit.specs.declared.fault.Fault.TheVariants.{Point, Width, Hazard, Assertion}
use Rattle.flat_circuit.specs.Circuit.{Circuit}
use Rattle.flat_circuit.specs.Run.{Run}
use Rattle.fixpoint_engine.specs.Waves.{Waves}
use Rattle.fixpoint_engine.specs.Pins.{PinsPermitAt}
use Rattle.pulse_check.specs.Break.{BreaksPulse}

abbrev pub same_level : Bool → Bool → Bool
same_level a b = if a then b else not b

-- the fault is of instance k's pulses at the level
abbrev pub is_of_pulse : ℕ → Bool → Fault → Bool
is_of_pulse k level (Width instance high start width) = (instance == k) && same_level high level
is_of_pulse k level (Point kind instance edge slot value) = false
is_of_pulse k level (Hazard instance slot pin) = false
is_of_pulse k level (Assertion net slot value) = false

-- Whatever the run and the tick: a checker whose pin is permitted from there on has no narrow pulse
-- at a level from there on, if none of the faults is of its pulses at that level.
abbrev pub KeepsWidths : Circuit → Waves → List Fault → Type 0
KeepsWidths c ws faults =
    (run : Run) (k : ℕ) (level : Bool) (from : ℕ) → list_any (is_of_pulse k level) faults ≡ false →
    PinsPermitAt c ws run k from →
    ¬ BreaksPulse c run k level from
