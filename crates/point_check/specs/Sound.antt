-- What it is worth that an instance or a net has no fault: what the waves permit from a tick on
-- breaks nothing from there on.
use Rattle.std.specs.Prelude.{◌≡◌, ℕ, false, List}
use Rattle.std.specs.List.{list_any}
use Rattle.step_values.specs.Cell.{values}
use Rattle.skew_algebra.specs.Permits.{Permits}
use Rattle.flat_circuit.specs.declared.fault.Fault.{Fault}
use Rattle.flat_circuit.specs.Circuit.{Circuit}
use Rattle.flat_circuit.specs.Run.{Run, net_signal}
use Rattle.fixpoint_engine.specs.Waves.{Waves}
use Rattle.fixpoint_engine.specs.Pins.{PinsPermitAt}
use Rattle.point_check.specs.Faults.{is_of_instance, is_of_net}
use Rattle.point_check.specs.Break.{BreaksInstance, BreaksNet}

-- Whatever the run and the tick: an instance whose pins are permitted from there on, and a net that
-- is, break nothing from there on, if none of the faults is theirs.
pub record KeepsConstraints (c : Circuit) (ws : Waves) (faults : List Fault) : Type 0 where
  pub instances : (run : Run) (k start : ℕ) → list_any (is_of_instance k) faults ≡ false →
      PinsPermitAt c ws run k start → ¬ BreaksInstance c run k start
  pub nets : (run : Run) (i start : ℕ) → list_any (is_of_net i) faults ≡ false →
      Permits values (ws i) run.ticks (net_signal run i) start → ¬ BreaksNet c run i start
