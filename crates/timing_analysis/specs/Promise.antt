-- What is promised of the runs of a circuit: what breaks in a run, what never breaks in a case, and
-- what never breaks in the circuit of a text.
use Rattle.std.specs.Prelude.{◌≡◌, ℕ, Bool, false, List}
use Rattle.std.specs.List.{All, list_any}
use Rattle.flat_circuit.specs.declared.case.CaseValue.{CaseValue}
use Rattle.flat_circuit.specs.declared.fault.Fault.{Fault}
use Rattle.flat_circuit.specs.Circuit.{Circuit}
use Rattle.flat_circuit.specs.Run.{Run, IsRun}
use Rattle.fixpoint_engine.specs.Interface.{MeetsInterface}
use Rattle.fixpoint_engine.specs.Rounds.{SettlesAt}
use Rattle.case_analysis.specs.Base.{base_round}
use Rattle.case_analysis.specs.Case.{IsInCase}
use Rattle.point_check.specs.Faults.{is_of_instance, is_of_net}
use Rattle.point_check.specs.Break.{BreaksInstance, BreaksNet}
use Rattle.pulse_check.specs.Break.{BreaksPulse}
use Rattle.pulse_check.specs.Sound.{is_of_pulse}
use Rattle.timing_analysis.specs.Drawn.{DrawsCircuit}
use Rattle.timing_analysis.specs.Case.{Case, AreSettled, listed_cases, printed_tick, faults}

-- ---- breaks

-- A constraint of an instance, the width of a pulse or the assertion of a driven net is broken in
-- the run, at ticks that all lie from a given one on.
pub data Breaks (c : Circuit) (run : Run) (start : ℕ) : Type 0 where
  by_instance : (k : ℕ) → BreaksInstance c run k start → Breaks c run start
  by_pulse : (k : ℕ) (level : Bool) → BreaksPulse c run k level start → Breaks c run start
  by_net : (i : ℕ) → BreaksNet c run i start → Breaks c run start

-- ---- safe runs

-- In every run of the case, of any length and from any start, with delays in bounds and inputs that
-- keep their assertions, nothing is broken from the tick on that is printed for the case.
abbrev pub IsUnbroken : Circuit → ℕ → Case → Type 0
IsUnbroken c base case =
    (run : Run) → IsRun c run → MeetsInterface c run → IsInCase case.listed.values run →
    ¬ Breaks c run (printed_tick c base case)

-- In such runs, in which these nets keep these values, what none of these faults is of is not
-- broken, from a given tick on: an instance, its pulses at a level, and a driven net that asserts
-- something.
pub record KeepsFaultless (c : Circuit) (values : List CaseValue) (fs : List Fault)
    (start : ℕ) : Type 0 where
  pub instances : (run : Run) (k : ℕ) → IsRun c run → MeetsInterface c run → IsInCase values run →
      list_any (is_of_instance k) fs ≡ false → ¬ BreaksInstance c run k start
  pub pulses : (run : Run) (k : ℕ) (level : Bool) → IsRun c run → MeetsInterface c run →
      IsInCase values run →
      list_any (is_of_pulse k level) fs ≡ false → ¬ BreaksPulse c run k level start
  pub nets : (run : Run) (i : ℕ) → IsRun c run → MeetsInterface c run → IsInCase values run →
      list_any (is_of_net i) fs ≡ false → ¬ BreaksNet c run i start

-- The same of each element that has no fault in the case, from the tick on that is printed for it.
abbrev pub IsKept : Circuit → ℕ → Case → Type 0
IsKept c base case =
    KeepsFaultless c case.listed.values (faults c case) (printed_tick c base case)

-- The base and all cases settle within the limit, and so it is in each case then.
pub record IsSafe (c : Circuit) (values : List (List CaseValue)) (limit : ℕ)
    (holds : ℕ → Case → Type 0) : Type 0 where
  pub base : ℕ
  pub settles : SettlesAt (base_round c) limit base
  pub cases : List Case
  pub are_settled : AreSettled c limit base (listed_cases values) cases
  pub each : All (holds base) cases

-- ---- texts that never break

-- The text draws a circuit, and nothing of it is ever broken, in any case that the text lists, from
-- the case's printed tick on.
pub record NeverBreaks (text : List ℕ) : Type 0 where
  pub circuit : Circuit
  pub values : List (List CaseValue)
  pub drawn : DrawsCircuit text circuit values
  pub limit : ℕ
  pub never : IsSafe circuit values limit (IsUnbroken circuit)

-- The same of what has no fault in a case, whatever faults the rest of the circuit has.
pub record FaultlessNeverBreaks (text : List ℕ) : Type 0 where
  pub circuit : Circuit
  pub values : List (List CaseValue)
  pub drawn : DrawsCircuit text circuit values
  pub limit : ℕ
  pub never : IsSafe circuit values limit (IsKept circuit)
