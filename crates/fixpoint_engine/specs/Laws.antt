-- What holds of all rounds over classes of nets.
use Rattle.std.specs.Prelude.{ℕ, Bool, List}
use Rattle.flat_circuit.specs.declared.case.CaseValue.{CaseValue}
use Rattle.flat_circuit.specs.Circuit.{Circuit, IsCircuit}
use Rattle.flat_circuit.specs.Stable.{IsStable}
use Rattle.fixpoint_engine.specs.Waves.{Waves}
use Rattle.fixpoint_engine.specs.Rounds.{round}
use Rattle.fixpoint_engine.specs.Classes.{HaveOneWave, AreTogether, GoTogether}

-- The nets of a stable class that begin with one wave, and are all active or all not, go together.
abbrev pub StableClassesGoTogether : Type 0
StableClassesGoTogether =
    (c : Circuit) (cases : List (List CaseValue)) (classes : List ℕ) (active : ℕ → Bool)
    (start : Waves) → IsCircuit c →
    IsStable c cases classes → AreTogether c classes active → HaveOneWave c classes start →
    GoTogether c classes active (round c active start)
