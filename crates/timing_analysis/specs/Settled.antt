-- A settled base and settled cases: their waves, their faults, and what never breaks in them.
use Rattle.std.specs.Prelude.{◌≡◌, ℕ, ◌≤◌, List, [], length, Option, IfSome}
use Rattle.step_values.specs.declared.value.Value.{Value}
use Rattle.skew_algebra.specs.Wave.{Wave}
use Rattle.flat_circuit.specs.declared.fault.Fault.{Fault}
use Rattle.flat_circuit.specs.Circuit.{Circuit}
use Rattle.fixpoint_engine.specs.Table.{AreKnown, waves_at}
use Rattle.fixpoint_engine.specs.Waves.{FitWaves, waves_of}
use Rattle.case_analysis.specs.Base.{IsBase, PermitInputs}
use Rattle.timing_analysis.specs.declared.case_faults.KnownFaults.{KnownFaults}
use Rattle.timing_analysis.specs.declared.settled.SettledCase.{SettledCase}
use Rattle.timing_analysis.specs.Known.{IsKnown}
use Rattle.timing_analysis.specs.Case.{Listed, Case, IsSettled, printed_tick, faults_of}
use Rattle.timing_analysis.specs.Promise.{IsKept, IsUnbroken}

-- The base settled in this round, within the limit, with these waves, which permit every run whose
-- inputs keep their assertions. If its faults are known by instances and nets, they are those of
-- these waves.
pub record IsSettledBase (c : Circuit) (limit base : ℕ) (ws : List (Wave Value))
    (known : Option KnownFaults) : Type 0 where
  pub within : base ≤ limit
  pub fit : FitWaves c ws
  pub settled : IsBase c limit base (waves_of ws)
  pub permits : PermitInputs c base (waves_of ws)
  pub are_known : IfSome known (IsKnown c (waves_of ws))

-- the case that has these waves after so many rounds
abbrev pub settled_case : Listed → ℕ → List (Wave Value) → Case
settled_case listed rounds ws = record { listed = listed; rounds = rounds; waves = waves_of ws }

-- The case that is listed settled from a base of this round, after so many rounds of its own and
-- within the limit, with these waves. It has this number and these faults, and this tick is printed
-- for it: what has no fault is never broken from there on, and nothing is if there is no fault.
pub record IsSettledCase (c : Circuit) (limit base : ℕ) (listed : Listed) (number rounds tick : ℕ)
    (ws : List (Wave Value)) (fs : List Fault) : Type 0 where
  pub numbered : number ≡ listed.number
  pub within : rounds ≤ limit
  pub fit : FitWaves c ws
  pub settled : IsSettled c limit base (settled_case listed rounds ws)
  pub printed : tick ≡ printed_tick c base (settled_case listed rounds ws)
  pub found : fs ≡ faults_of c (waves_of ws)
  pub few : length fs ≤ 458752
  pub kept : IsKept c base (settled_case listed rounds ws)
  pub unbroken : fs ≡ [] → IsUnbroken c base (settled_case listed rounds ws)

-- ---- the same of waves that are kept in a table, by their numbers

pub record IsBaseIn (c : Circuit) (limit base : ℕ) (table : List (Wave Value)) (numbers : List ℕ)
    (known : Option KnownFaults) : Type 0 where
  pub are : AreKnown table numbers
  pub settled : IsSettledBase c limit base (waves_at table numbers) known

pub record IsCaseIn (c : Circuit) (limit base : ℕ) (listed : Listed) (table : List (Wave Value))
    (k : SettledCase) : Type 0 where
  pub are : AreKnown table k.settled.numbers
  pub settled :
      IsSettledCase c limit base listed k.number k.settled.rounds k.tick
      (waves_at table k.settled.numbers) k.faults
