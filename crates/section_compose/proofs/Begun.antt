-- A section whose rounds begin with the nets of a case coming in is one of the whole, if these are the
-- nets that come from other sections.
use Rattle.std.proofs.Common.{◌≡◌, List, slice_get, subst}
use Rattle.flat_circuit.specs.declared.case.CaseValue.{CaseValue}
use Rattle.flat_circuit.specs.Circuit.{Circuit}
use Rattle.fixpoint_engine.specs.Waves.{Waves}
use Rattle.fixpoint_engine.specs.declared.rounds.EngineEnd.{EngineEnd}
use Rattle.fixpoint_engine.specs.End.{EndsFor}
use Rattle.fixpoint_engine.specs.Rounds.{round}
use Rattle.fixpoint_engine.specs.Settled.{AreSettled}
use Rattle.fixpoint_engine.specs.Start.{base_start, default_limit, is_driven}
use Rattle.case_analysis.specs.Case.{is_set}
use Rattle.section_compose.specs.Evaluated.{IsSettled, Settling, section_round, section_start, start_with, wave_in}
use Rattle.section_compose.specs.Settled.{IsCase}

module _ (whole : List Circuit) (c : Circuit) (values : List CaseValue) (is : IsCase whole c values) where
  pub start_is : start_with c (is_set values) ≡ section_start whole c
  start_is = λ k i. wave_in c.header (is.sets i k) (slice_get c.nets i) (base_start c i)

  pub is_settled : (settling : Settling) → AreSettled c (is_driven c) (start_with c (is_set values)) (default_limit c) settling.rounds settling.waves → IsSettled whole c settling
  is_settled settling at = subst (λ (start : Waves). AreSettled c (is_driven c) start (default_limit c) settling.rounds settling.waves) start_is at

  pub ends : (end : EngineEnd) → EndsFor c.order (round c (is_driven c) (start_with c (is_set values))) (default_limit c) end →
      EndsFor c.order (section_round whole c) (default_limit c) end
  ends end e = subst (λ (start : Waves). EndsFor c.order (round c (is_driven c) start) (default_limit c) end) start_is e
