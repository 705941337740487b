-- What has no fault in a narrowed circuit is never broken in a run that is in the narrowing.
use Rattle.std.proofs.Common.{◌≡◌, ℕ, ◌<◌, false, List, [], ◌∷◌, subst}
use Rattle.std.specs.List.{All, AllByRecursion, list_any}
use Rattle.std.proofs.lemmas.List.Elements.{All-append, All-cons, All-nil, recursion_from_All}
use Rattle.scald_base.specs.Time.{IsHeader}
use Rattle.flat_circuit.specs.declared.case.CaseValue.{CaseValue}
use Rattle.flat_circuit.specs.declared.fault.Fault.{Fault}
use Rattle.flat_circuit.specs.Circuit.{Circuit, IsCircuit}
use Rattle.flat_circuit.specs.Run.{IsRun, Run, net_signal}
use Rattle.fixpoint_engine.specs.Interface.{MeetsInterface}
use Rattle.case_analysis.specs.Case.{IsInCase}
use Rattle.timing_analysis.specs.Promise.{KeepsFaultless}
use Rattle.narrowing.specs.declared.constraint.Constraint.{Constraint}
use Rattle.narrowing.specs.declared.constraint.Constraint.TheVariants.{Instance as OfInstance, Pulse as OfPulse, Net as OfNet}
use Rattle.narrowing.specs.declared.part.Part.{Part}
use Rattle.narrowing.specs.declared.part.Part.TheVariants.{Constant, Delay, Offset, Rise, Fall}
use Rattle.narrowing.specs.Constraint.{BreaksOf, is_of}
use Rattle.narrowing.specs.declared.leaf.Leaf.{Leaf}
use Rattle.narrowing.specs.declared.leaf.Leaf.TheVariants.{Free}
use Rattle.narrowing.specs.Leaf.{IsSaid, NeverBreaksIn, Says}
use Rattle.narrowing.specs.Narrowed.{constants, narrowed, narrowed_cases, narrowed_values}
use Rattle.narrowing.specs.Part.{IsIn, KeepsTo, PartFits}
use Rattle.narrowing.proofs.Breaks.{narrowed_breaks}
use Rattle.narrowing.proofs.Meeting.{narrowed_meets, some_ticks}
use Rattle.narrowing.proofs.Runs.{narrowed_run}

-- the bits of parts that are of nets

abbrev Keeps : Run → CaseValue → Type 0
Keeps run v = (t : ℕ) → t < run.ticks → net_signal run v.net t ≡ v.one

sets_constants : (c : Circuit) (run : Run) (parts : List Part) → AllByRecursion (KeepsTo c run) parts →
    All (Keeps run) (constants parts)
sets_constants c run [] keep = All-nil (Keeps run)
sets_constants c run (Constant net one ∷ ps) keep =
    All-cons (Keeps run) (record { net = net; one = one }) (constants ps) keep.0 (sets_constants c run ps keep.1)
sets_constants c run (Delay k least greatest ∷ ps) keep = sets_constants c run ps keep.1
sets_constants c run (Rise k least greatest ∷ ps) keep = sets_constants c run ps keep.1
sets_constants c run (Fall k least greatest ∷ ps) keep = sets_constants c run ps keep.1
sets_constants c run (Offset net least greatest ∷ ps) keep = sets_constants c run ps keep.1

pub in_narrowed_case : (c : Circuit) (values : List CaseValue) (parts : List Part) (run : Run) → IsIn c values parts run →
    IsInCase (narrowed_values values parts) run
in_narrowed_case c values parts run is =
    All-append (Keeps run) values (constants parts) is.in_case
    (sets_constants c run parts (recursion_from_All (KeepsTo c run) parts is.keeps))

-- what is kept where there is no fault of the constraint
kept : (c : Circuit) (values : List CaseValue) (fs : List Fault) (t : ℕ) (x : Constraint) (run : Run) →
    KeepsFaultless c values fs t → list_any (is_of x) fs ≡ false → IsRun c run → MeetsInterface c run →
    IsInCase values run → BreaksOf c run x t → ⊥
kept c values fs t (OfInstance k) run keeps free is meets in_case = keeps.instances run k is meets in_case free
kept c values fs t (OfPulse k high) run keeps free is meets in_case = keeps.pulses run k high is meets in_case free
kept c values fs t (OfNet i) run keeps free is meets in_case = keeps.nets run i is meets in_case free

-- Nothing of the narrowed circuit's faults is of the constraint, so no run of the narrowing breaks it.
pub never_in : (c : Circuit) (values : List CaseValue) (parts : List Part) (fs : List Fault) (x : Constraint) (t : ℕ) →
    IsHeader c.header → IsCircuit c → All (PartFits c values) parts →
    KeepsFaultless (narrowed c parts) (narrowed_values values parts) fs t →
    list_any (is_of x) fs ≡ false → NeverBreaksIn c values parts x t
never_in c values parts fs x t known circuit fit keeps free run is meets in_parts breaks =
    kept (narrowed c parts) (narrowed_values values parts) fs t x run keeps free
    (narrowed_run c values parts run fit is in_parts.keeps)
    (narrowed_meets c parts run known circuit meets in_parts.keeps)
    (in_narrowed_case c values parts run in_parts)
    (narrowed_breaks c parts run x t (some_ticks c known) breaks)

-- what a leaf that is free says of the circuit and the case that parts make
pub said_in : (c d : Circuit) (values : List CaseValue) (parts : List Part) (cases : List (List CaseValue)) (x : Constraint)
    (said : Leaf) (tick : ℕ) → d ≡ narrowed c parts → cases ≡ narrowed_cases values parts → Says d cases x said →
    said ≡ Free tick → IsSaid (narrowed c parts) (narrowed_values values parts) x tick
said_in c d values parts cases x said tick is are says free =
    subst (λ (k : Circuit). IsSaid k (narrowed_values values parts) x tick) is
    (says tick (narrowed_values values parts) free are)

pub never_said : (c : Circuit) (values : List CaseValue) (parts : List Part) (x : Constraint) (tick : ℕ) →
    IsHeader c.header → IsCircuit c → All (PartFits c values) parts →
    IsSaid (narrowed c parts) (narrowed_values values parts) x tick → NeverBreaksIn c values parts x tick
never_said c values parts x tick known circuit fit said =
    never_in c values parts said.keeps.faults x tick known circuit fit said.keeps.keeps said.keeps.free
