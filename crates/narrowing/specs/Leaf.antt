-- Narrowings in which a constraint has no fault.
use Rattle.std.specs.Prelude.{◌≡◌, ℕ, false, List}
use Rattle.std.specs.List.{list_any}
use Rattle.flat_circuit.specs.declared.case.CaseValue.{CaseValue}
use Rattle.flat_circuit.specs.declared.fault.Fault.{Fault}
use Rattle.flat_circuit.specs.Circuit.{Circuit}
use Rattle.flat_circuit.specs.Run.{Run, IsRun}
use Rattle.fixpoint_engine.specs.Interface.{MeetsInterface}
use Rattle.fixpoint_engine.specs.Rounds.{SettlesAt}
use Rattle.fixpoint_engine.specs.Start.{default_limit}
use Rattle.case_analysis.specs.Base.{base_round}
use Rattle.timing_analysis.specs.Case.{Case, IsSettled, faults, printed_tick}
use Rattle.timing_analysis.specs.Promise.{KeepsFaultless}
use Rattle.narrowing.specs.declared.constraint.Constraint.{Constraint}
use Rattle.narrowing.specs.Constraint.{BreaksOf, is_of}
use Rattle.narrowing.specs.declared.leaf.Leaf.{Leaf}
use Rattle.narrowing.specs.declared.leaf.Leaf.TheVariants.{Free}
use Rattle.narrowing.specs.declared.part.Part.{Part}
use Rattle.narrowing.specs.Part.{IsIn}
use Rattle.narrowing.specs.Narrowed.{narrowed, narrowed_values, only_case}

-- The base of a circuit and a case that sets these nets settle within the circuit's own limit of
-- rounds, the case has no fault of the constraint, and this is its printed tick.
pub record IsFree (c : Circuit) (values : List CaseValue) (x : Constraint) (tick : ℕ) : Type 0 where
  pub base : ℕ
  pub settles : SettlesAt (base_round c) (default_limit c) base
  pub case : Case
  pub sets : case.listed.values ≡ values
  pub settled : IsSettled c (default_limit c) base case
  pub free : list_any (is_of x) (faults c case) ≡ false
  pub printed : tick ≡ printed_tick c base case

-- So it is in the narrowed circuit.
abbrev pub IsFreeLeaf : Circuit → List CaseValue → List Part → Constraint → ℕ → Type 0
IsFreeLeaf c values parts x tick = IsFree (narrowed c parts) (narrowed_values values parts) x tick

-- Of some faults none is of the constraint, and from the tick on nothing is broken in the runs of a
-- case but what has one of them.
pub record KeepsFree (c : Circuit) (values : List CaseValue) (x : Constraint) (tick : ℕ) : Type 0 where
  pub faults : List Fault
  pub keeps : KeepsFaultless c values faults tick
  pub free : list_any (is_of x) faults ≡ false

-- What a free leaf says of the only case of a circuit, or of its base if no net is set.
pub record IsSaid (c : Circuit) (values : List CaseValue) (x : Constraint) (tick : ℕ) : Type 0 where
  pub free : IsFree c values x tick
  pub keeps : KeepsFree c values x tick

-- so much is said of all values that make the cases of the circuit
abbrev pub Says : Circuit → List (List CaseValue) → Constraint → Leaf → Type 0
Says c cases x said =
    (tick : ℕ) (values : List CaseValue) → said ≡ Free tick → cases ≡ only_case values →
    IsSaid c values x tick

-- In every run that is in the narrowing and whose inputs keep their assertions, no break of the
-- constraint lies from the tick on.
abbrev pub NeverBreaksIn : Circuit → List CaseValue → List Part → Constraint → ℕ → Type 0
NeverBreaksIn c values parts x tick =
    (run : Run) → IsRun c run → MeetsInterface c run → IsIn c values parts run →
    ¬ BreaksOf c run x tick
