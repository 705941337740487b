-- The settled cases of a circuit, and their faults.
use Rattle.std.specs.Prelude.{◌≡◌, ℕ, ◌+◌, Bool, List, [], ◌∷◌, ◌++◌, length, map}
use Rattle.std.specs.List.{All, sum_by}
use Rattle.flat_circuit.specs.declared.case.CaseValue.{CaseValue}
use Rattle.flat_circuit.specs.declared.fault.Fault.{Fault}
use Rattle.flat_circuit.specs.Circuit.{Circuit}
use Rattle.fixpoint_engine.specs.Waves.{Waves}
use Rattle.fixpoint_engine.specs.Reach.{reach}
use Rattle.fixpoint_engine.specs.Rounds.{IsUnsettled}
use Rattle.case_analysis.specs.Base.{base_round}
use Rattle.case_analysis.specs.Case.{IsCone, IsCase, case_round}
use Rattle.case_analysis.specs.Tick.{tick}
use Rattle.point_check.specs.Faults.{point_faults}
use Rattle.pulse_check.specs.Faults.{width_faults}

-- ---- which cases there are

-- a case with its number, and the nets that it sets
pub record Listed : Type 0 where
  pub number : ℕ
  pub values : List CaseValue

abbrev pub numbered : ℕ → List (List CaseValue) → List Listed
numbered from [] = []
numbered from (vs ∷ cases) = record { number = from; values = vs } ∷ numbered (from + 1) cases

-- A drawing's cases count from 1. If it has none there is one case, of number 0, in which no net
-- is set.
abbrev pub listed_cases : List (List CaseValue) → List Listed
listed_cases [] = record { number = 0; values = [] } ∷ []
listed_cases (vs ∷ cases) = numbered 1 (vs ∷ cases)

-- ---- settled cases

-- a case, the rounds that it takes from the base on, and the waves of the nets when it has settled
pub record Case : Type 0 where
  pub listed : Listed
  pub rounds : ℕ
  pub waves : Waves

-- The case's rounds start from a base that settled in this round; they settle in the round that is
-- given, and within the limit, with the waves that are given.
pub record IsSettled (c : Circuit) (limit base : ℕ) (case : Case) : Type 0 where
  pub cone : ℕ → Bool
  pub is_cone : IsCone c case.listed.values cone
  pub is : IsCase c case.listed.values cone (base_round c base) limit case.rounds case.waves

-- these cases, one after the other, settled
pub record AreSettled (c : Circuit) (limit base : ℕ) (listed : List Listed)
    (cases : List Case) : Type 0 where
  pub each : map (λ (case : Case). case.listed) cases ≡ listed
  pub settled : All (IsSettled c limit base) cases

-- The case does not settle within the limit, and at the limit the net at this place in name order
-- is the first that still changes.
pub record NeverSettles (c : Circuit) (limit base : ℕ) (listed : Listed) (place : ℕ) : Type 0 where
  pub cone : ℕ → Bool
  pub is_cone : IsCone c listed.values cone
  pub is : IsUnsettled c.order (case_round c listed.values cone (base_round c base)) limit place

-- Of the cases in their order, this one is the first that never settles.
pub record StopsAt (c : Circuit) (limit base : ℕ) (listed : List Listed) (place : ℕ) : Type 0 where
  pub before : List Case
  pub case : Listed
  pub after : List Listed
  pub order : map (λ (k : Case). k.listed) before ++ case ∷ after ≡ listed
  pub settled : All (IsSettled c limit base) before
  pub never : NeverSettles c limit base case place

-- ---- their faults

-- the tick from which on a case's waves hold at each pin, which is printed
abbrev pub printed_tick : Circuit → ℕ → Case → ℕ
printed_tick c base case = tick (reach c) base case.rounds

-- about the edges of clocks, at marked pins and of assertions, and then of the widths of pulses
abbrev pub faults_of : Circuit → Waves → List Fault
faults_of c ws = point_faults c ws ++ width_faults c ws

abbrev pub faults : Circuit → Case → List Fault
faults c case = faults_of c case.waves

-- how many there are over all cases
abbrev pub fault_count : Circuit → List Case → ℕ
fault_count c cases = sum_by (λ (case : Case). length (faults c case)) cases
