-- What holds of trees of narrowings.
use Rattle.std.specs.Prelude.{[], List}
use Rattle.std.specs.List.{All, Contains}
use Rattle.flat_circuit.specs.declared.case.CaseValue.{CaseValue}
use Rattle.flat_circuit.specs.Circuit.{Circuit}
use Rattle.flat_circuit.specs.Run.{IsRun, Run}
use Rattle.fixpoint_engine.specs.Interface.{MeetsInterface}
use Rattle.case_analysis.specs.Case.{IsInCase}
use Rattle.narrowing.specs.declared.part.Part.{Part}
use Rattle.narrowing.specs.Part.{IsIn, IsNarrowing}
use Rattle.narrowing.specs.Tree.{IsOver, Tree, leaves}

-- one of these narrowings
pub record IsInOne (c : Circuit) (values : List CaseValue) (narrowings : List (List Part))
    (run : Run) : Type 0 where
  pub parts : List Part
  pub one : Contains narrowings parts
  pub inside : IsIn c values parts run

-- Each leaf of a tree over a case is a narrowing of it.
abbrev pub LeavesAreNarrowings : Type 0
LeavesAreNarrowings =
    (c : Circuit) (values : List CaseValue) (tree : Tree) → IsOver c values tree [] →
    All (IsNarrowing c values) (leaves tree [])

-- Every run of a case, whose inputs keep their assertions, is in at least one leaf of each tree
-- over the case.
abbrev pub LeavesCover : Type 0
LeavesCover =
    (c : Circuit) (values : List CaseValue) (tree : Tree) (run : Run) → IsOver c values tree [] →
    IsRun c run → MeetsInterface c run → IsInCase values run →
    IsInOne c values (leaves tree []) run
