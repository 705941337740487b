-- From the end of a base or of a case to the end of the circuit, and the net that it names.
use Rattle.std.proofs.Common.{◌≡◌, ℕ, ◌<◌, List, length, subst}
use Rattle.flat_circuit.specs.declared.case.CaseValue.{CaseValue}
use Rattle.flat_circuit.specs.Circuit.{Circuit}
use Rattle.fixpoint_engine.specs.declared.rounds.EngineEnd.{EngineEnd}
use Rattle.fixpoint_engine.specs.declared.rounds.EngineEnd.TheVariants.{Unsettled, NoMemory}
use Rattle.fixpoint_engine.specs.End.{EndsFor}
use Rattle.fixpoint_engine.specs.Rounds.{SettlesAt}
use Rattle.case_analysis.specs.Base.{base_round}
use Rattle.timing_analysis.specs.Case.{listed_cases}
use Rattle.timing_analysis.specs.Ended.{EndsCases, EndsEarly, StopsEarly, by_base, by_case}

module _ (c : Circuit) (values : List (List CaseValue)) (limit : ℕ) where
  pub base_early : (end : EngineEnd) → EndsFor c.order (base_round c) limit end → EndsEarly c values limit end
  base_early NoMemory ends = tt
  base_early (Unsettled place round) ends = (by_base ends.0, ends.1)

  pub case_early : (base : ℕ) (end : EngineEnd) → SettlesAt (base_round c) limit base →
      EndsCases c limit base (listed_cases values) end → EndsEarly c values limit end
  case_early base NoMemory settles ends = tt
  case_early base (Unsettled place round) settles ends = (by_case base settles ends.0, ends.1)

  -- the net that an end names is one of the circuit
  stop_below : (place : ℕ) → StopsEarly c values limit place → place < length c.order
  stop_below place (by_base is) = is.first.below
  stop_below place (by_case base settles stops) = stops.never.is.first.below

  pub end_below : (end : EngineEnd) (place round : ℕ) → EndsEarly c values limit end →
      end ≡ Unsettled place round → place < length c.order
  end_below end place round ends is =
      let there : EndsEarly c values limit (Unsettled place round) = subst (EndsEarly c values limit) is ends in
      stop_below place there.0
