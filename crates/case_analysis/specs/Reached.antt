-- The nets that a case reaches.
use Rattle.std.specs.Prelude.{◌≡◌, ℕ, List, length, map}
use Rattle.flat_circuit.specs.declared.case.CaseValue.{CaseValue}
use Rattle.flat_circuit.specs.Circuit.{Circuit}
use Rattle.fixpoint_engine.specs.Settled.{marked_in}
use Rattle.case_analysis.specs.Case.{IsCone, case_active}
use Rattle.case_analysis.specs.declared.reached.Reached.{Reached}

-- the nets that a case sets, in its order
abbrev pub nets_set : List CaseValue → List ℕ
nets_set values = map (λ (v : CaseValue). v.net) values

-- Each net has a mark, which says whether it is in the cone of the case, and another, which says
-- whether it is driven as well.
pub record AreReached (c : Circuit) (values : List CaseValue) (r : Reached) : Type 0 where
  pub cone_nets : length r.cone ≡ length c.nets
  pub cone : IsCone c values (marked_in r.cone)
  pub active_nets : length r.active ≡ length c.nets
  pub active : (i : ℕ) → marked_in r.active i ≡ case_active c (marked_in r.cone) i
