use Rattle.std.proofs.Common.{◌≡◌, ◌∙◌, ◌++◌, [], ◌∷◌, List, ap, sym, subst}
use Rattle.scald_base.specs.Time.{Header}
use Rattle.flat_circuit.specs.declared.case.CaseValue.{CaseValue}
use Rattle.flat_circuit.specs.Stable.{IsStable}
use Rattle.fixpoint_engine.specs.Key.{AreConstants}
use Rattle.fixpoint_engine.specs.Table.{waves_at}
use Rattle.fixpoint_engine.specs.Waves.{waves_of}
use Rattle.fixpoint_engine.specs.Settled.{marked_in}
use Rattle.fixpoint_engine.specs.Start.{is_driven}
use Rattle.fixpoint_engine.proofs.Kept.{each_stands}
use Rattle.fixpoint_engine.proofs.Numbered.{constants_still}
use Rattle.case_analysis.specs.Case.{is_set}
use Rattle.case_analysis.proofs.Together.{as_one_wave, as_together, driven_together}
use Rattle.section_compose.specs.Evaluated.{start_with}
use Rattle.section_compose.proofs.Classes.{start_alike}
use Rattle.section_compose.proofs.Settling.{settled_ends, settled_so, settled_soon}
use Rattle.section_compose.proofs.evaluated.settled.Goals as goal

pub settle-requires-clause-constants : goal.settle-requires-clause-constants
settle-requires-clause-constants g c =
    constants_still c.args.c.now.header c.constant_numbers.new.store c.section_start.new.store
    c.in_ok-constants.constants
    c.in_ok-numbers.ensures.grows
    (subst (λ (h : Header). AreConstants h c.constant_numbers.new.store c.in_ok-constants.constants)
    c.header-2.ensures c.in_ok-constants.ensures.are)

pub settle-requires-clause-hearers : goal.settle-requires-clause-hearers
settle-requires-clause-hearers g c = c.in_ok-classes.ensures.hearers

pub settle-requires-clause-classes : goal.settle-requires-clause-classes
settle-requires-clause-classes g c =
    let circuit = c.args.c.now in
    let cases = c.push.new.self in
    let start = waves_of (waves_at c.section_start.new.store c.in_ok-numbers.numbers) in
    let listed : cases ≡ c.args.case ∷ [] =
    c.in_ok-push.ensures.ok
    ∙ ap (λ (before : List (List CaseValue)). before ++ c.args.case ∷ []) c.new-cases.ensures in
    each_stands circuit cases c.in_ok-active.active c.in_ok-classes.classes.nets start
    c.known.ensures
    (λ i on. sym (c.in_ok-active.ensures.driven i) ∙ on) c.in_ok-classes.ensures.stable
    (λ ks stable. (
      as_one_wave circuit ks start (start_with circuit (is_set c.args.case))
          c.in_ok-numbers.ensures.is
          (start_alike circuit c.args.case ks c.known.ensures
          (subst (λ (listed : List (List CaseValue)). IsStable circuit listed ks) listed stable)),
      as_together circuit ks (marked_in c.in_ok-active.active) (is_driven circuit)
          c.in_ok-active.ensures.driven
          (driven_together circuit cases ks c.known.ensures stable),
    ))

pub returns-clause-settled : goal.returns-clause-settled
returns-clause-settled g c =
    settled_so c.settle.result c.args.c.now (marked_in c.in_ok-active.active) (waves_of (waves_at c.section_start.new.store c.in_ok-numbers.numbers))
    (start_with c.args.c.now (is_set c.args.case)) c.default_limit-limit.result
    c.in_ok-active.ensures.driven c.in_ok-numbers.ensures.is c.default_limit-limit.ensures.is
    (λ s. s.rounds) (λ s. waves_of (waves_at c.settle.new.store s.numbers)) c.settle.ensures.settled

pub returns-clause-unsettled : goal.returns-clause-unsettled
returns-clause-unsettled g c =
    settled_ends c.settle.result c.args.c.now (marked_in c.in_ok-active.active) (waves_of (waves_at c.section_start.new.store c.in_ok-numbers.numbers))
    (start_with c.args.c.now (is_set c.args.case)) c.default_limit-limit.result
    c.in_ok-active.ensures.driven c.in_ok-numbers.ensures.is c.default_limit-limit.ensures.is c.settle.ensures.unsettled

pub returns-clause-within : goal.returns-clause-within
returns-clause-within g c =
    settled_soon c.settle.result c.args.c.now (marked_in c.in_ok-active.active) (waves_of (waves_at c.section_start.new.store c.in_ok-numbers.numbers))
    c.default_limit-limit.result (λ s. s.rounds) (λ s. waves_of (waves_at c.settle.new.store s.numbers))
    c.default_limit-limit.ensures.bounded c.settle.ensures.settled
