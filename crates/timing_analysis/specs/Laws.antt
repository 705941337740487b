-- Laws of settled circuits.
use Rattle.std.specs.Prelude.{◌≡◌, ℕ, List, []}
use Rattle.flat_circuit.specs.Circuit.{Circuit}
use Rattle.fixpoint_engine.specs.Rounds.{SettlesAt}
use Rattle.case_analysis.specs.Base.{base_round}
use Rattle.timing_analysis.specs.Case.{Listed, Case, AreSettled, faults}
use Rattle.timing_analysis.specs.Promise.{IsKept, IsUnbroken}

-- A circuit and its cases settle in one way, whatever the limits are.
abbrev pub SettlesOneWay : Type 0
SettlesOneWay =
    (c : Circuit) (limit limit' base base' : ℕ) (listed : List Listed) (cases cases' : List Case) →
    SettlesAt (base_round c) limit base → AreSettled c limit base listed cases →
    SettlesAt (base_round c) limit' base' → AreSettled c limit' base' listed cases' →
    (base ≡ base') × (cases ≡ cases')

-- If nothing without a fault is broken in a case, nothing is broken in a case without a fault.
abbrev pub FaultlessIsUnbroken : Type 0
FaultlessIsUnbroken =
    (c : Circuit) (base : ℕ) (case : Case) → faults c case ≡ [] → IsKept c base case →
    IsUnbroken c base case
