-- What code has of a section: the nets that come from other sections as a case, and its waves as a
-- list, or by their numbers in a table.
use Rattle.std.specs.Prelude.{◌≡◌, ℕ, List}
use Rattle.step_values.specs.declared.value.Value.{Value}
use Rattle.skew_algebra.specs.Wave.{Wave}
use Rattle.flat_circuit.specs.declared.case.CaseValue.{CaseValue}
use Rattle.flat_circuit.specs.Circuit.{Circuit}
use Rattle.fixpoint_engine.specs.Table.{waves_at}
use Rattle.fixpoint_engine.specs.Waves.{waves_of}
use Rattle.case_analysis.specs.Case.{NetsExist, is_set}
use Rattle.section_compose.specs.Evaluated.{Settling, across}

-- the case sets exactly the nets of the section that come from others
pub record IsCase (whole : List Circuit) (c : Circuit) (values : List CaseValue) : Type 0 where
  pub exist : NetsExist c values
  pub sets : (i : ℕ) → is_set values i ≡ across whole c i

abbrev pub settling_of : ℕ → List (Wave Value) → Settling
settling_of rounds ws = record { rounds = rounds; waves = waves_of ws }

abbrev pub settling_in : ℕ → List (Wave Value) → List ℕ → Settling
settling_in rounds table numbers = settling_of rounds (waves_at table numbers)
