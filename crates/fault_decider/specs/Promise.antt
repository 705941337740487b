-- What is promised of a drawing whose faults are all refuted.
use Rattle.std.specs.Prelude.{◌≡◌, ℕ, List}
use Rattle.flat_circuit.specs.declared.case.CaseValue.{CaseValue}
use Rattle.flat_circuit.specs.Circuit.{Circuit}
use Rattle.flat_circuit.specs.Run.{Run, IsRun}
use Rattle.fixpoint_engine.specs.Interface.{MeetsInterface}
use Rattle.case_analysis.specs.Case.{IsInCase}
use Rattle.timing_analysis.specs.Case.{Case}
use Rattle.timing_analysis.specs.Drawn.{DrawsCircuit}
use Rattle.timing_analysis.specs.Promise.{Breaks, IsSafe}

-- In every run of the case, of any length and from any start, with delays in bounds and inputs that
-- keep their assertions, nothing is broken from the tick on.
abbrev pub IsUnbrokenFrom : Circuit → ℕ → ℕ → Case → Type 0
IsUnbrokenFrom c tick base case =
    (run : Run) → IsRun c run → MeetsInterface c run → IsInCase case.listed.values run →
    ¬ Breaks c run tick

-- The text draws a circuit, and nothing of it is ever broken from some tick on, in any case that
-- the text lists.
pub record NeverBreaksLater (text : List ℕ) : Type 0 where
  pub circuit : Circuit
  pub values : List (List CaseValue)
  pub drawn : DrawsCircuit text circuit values
  pub limit : ℕ
  pub tick : ℕ
  pub never : IsSafe circuit values limit (IsUnbrokenFrom circuit tick)
