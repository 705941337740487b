-- Why a circuit and its cases have not all settled.
use Rattle.std.specs.Prelude.{◌≡◌, ℕ, List, ⊤}
use Rattle.flat_circuit.specs.declared.case.CaseValue.{CaseValue}
use Rattle.flat_circuit.specs.Circuit.{Circuit}
use Rattle.fixpoint_engine.specs.declared.rounds.EngineEnd.{EngineEnd}
use Rattle.fixpoint_engine.specs.declared.rounds.EngineEnd.TheVariants.{Unsettled, NoMemory}
use Rattle.fixpoint_engine.specs.Rounds.{SettlesAt, IsUnsettled}
use Rattle.case_analysis.specs.Base.{base_round}
use Rattle.timing_analysis.specs.Case.{Listed, NeverSettles, StopsAt, listed_cases}

-- The case never settles within the limit: the net at this position in name order is the first that
-- still changes there. Or memory ran out.
abbrev pub EndsCase : Circuit → ℕ → ℕ → Listed → EngineEnd → Type 0
EndsCase c limit base listed NoMemory = ⊤
EndsCase c limit base listed (Unsettled place round) =
    NeverSettles c limit base listed place × (round ≡ limit)

-- The same of the first of these cases that never settles.
abbrev pub EndsCases : Circuit → ℕ → ℕ → List Listed → EngineEnd → Type 0
EndsCases c limit base listed NoMemory = ⊤
EndsCases c limit base listed (Unsettled place round) =
    StopsAt c limit base listed place × (round ≡ limit)

-- The base does not settle within the limit; or it does, and some case does not. The net at this
-- position in name order is the first that still changes.
pub data StopsEarly (c : Circuit) (values : List (List CaseValue)) (limit place : ℕ) : Type 0 where
  by_base : IsUnsettled c.order (base_round c) limit place → StopsEarly c values limit place
  by_case : (base : ℕ) → SettlesAt (base_round c) limit base →
      StopsAt c limit base (listed_cases values) place → StopsEarly c values limit place

abbrev pub EndsEarly : Circuit → List (List CaseValue) → ℕ → EngineEnd → Type 0
EndsEarly c values limit NoMemory = ⊤
EndsEarly c values limit (Unsettled place round) =
    StopsEarly c values limit place × (round ≡ limit)
