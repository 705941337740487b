-- The constraint that a fault is of, and the runs that show it to be broken.
use Rattle.std.specs.Prelude.{ℕ, Bool, List}
use Rattle.flat_circuit.specs.declared.case.CaseValue.{CaseValue}
use Rattle.flat_circuit.specs.declared.fault.Fault.{Fault}
use Rattle.flat_circuit.specs.declared.fault.Fault.TheVariants.{Point, Width, Hazard, Assertion}
use Rattle.flat_circuit.specs.Circuit.{Circuit}
use Rattle.flat_circuit.specs.Run.{Run, IsRun}
use Rattle.fixpoint_engine.specs.Interface.{MeetsInterface}
use Rattle.case_analysis.specs.Case.{IsInCase}
use Rattle.point_check.specs.Faults.{is_of_instance, is_of_net}
use Rattle.point_check.specs.Break.{BreaksInstance, BreaksNet}
use Rattle.pulse_check.specs.Break.{BreaksPulse}
use Rattle.pulse_check.specs.Sound.{is_of_pulse}
use Rattle.narrowing.specs.declared.constraint.Constraint.{Constraint}
use Rattle.narrowing.specs.declared.constraint.Constraint.TheVariants.{Instance as OfInstance, Pulse as OfPulse, Net as OfNet}

-- A fault is of one constraint: that of its checker, of which the widths of high and of low pulses
-- are two; that of its marked element; or that of its asserted net.
abbrev pub constraint_of : Fault → Constraint
constraint_of (Point kind instance edge slot value) = OfInstance instance
constraint_of (Width instance high start width) = OfPulse instance high
constraint_of (Hazard instance slot pin) = OfInstance instance
constraint_of (Assertion net slot value) = OfNet net

-- a fault is of the constraint
abbrev pub is_of : Constraint → Fault → Bool
is_of (OfInstance k) = is_of_instance k
is_of (OfPulse k high) = is_of_pulse k high
is_of (OfNet i) = is_of_net i

-- A break of the constraint lies from a tick on in the run.
abbrev pub BreaksOf : Circuit → Run → Constraint → ℕ → Type 0
BreaksOf c run (OfInstance k) from = BreaksInstance c run k from
BreaksOf c run (OfPulse k high) from = BreaksPulse c run k high from
BreaksOf c run (OfNet i) from = BreaksNet c run i from

-- The run is one of the circuit, its inputs keep their assertions, it is in the case, and a break
-- of the constraint lies from a tick on.
pub record IsShowing (c : Circuit) (values : List CaseValue) (x : Constraint) (from : ℕ)
    (run : Run) : Type 0 where
  pub is_run : IsRun c run
  pub meets : MeetsInterface c run
  pub in_case : IsInCase values run
  pub breaks : BreaksOf c run x from

-- Some run shows it.
pub record Shown (c : Circuit) (values : List CaseValue) (x : Constraint) (from : ℕ) : Type 0 where
  pub run : Run
  pub shows : IsShowing c values x from run
