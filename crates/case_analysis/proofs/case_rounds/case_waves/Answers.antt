use Rattle.std.proofs.Common.{◌≡◌, ◌<◌, ◌+◌, ◌∙◌, List, ap, sym, subst}
use Rattle.std.proofs.Common.{arith}
use Rattle.std.specs.Prelude.{IfSome}
use Rattle.scald_base.specs.Time.{period}
use Rattle.flat_circuit.specs.declared.case.CaseValue.{CaseValue}
use Rattle.fixpoint_engine.specs.Table.{waves_at}
use Rattle.fixpoint_engine.specs.Waves.{waves_of}
use Rattle.fixpoint_engine.specs.Members.{evaluations_to}
use Rattle.fixpoint_engine.specs.End.{EndsFor}
use Rattle.fixpoint_engine.specs.Rounds.{round}
use Rattle.fixpoint_engine.specs.Settled.{AreSettled, marked_in}
use Rattle.case_analysis.specs.Case.{IsCone, NetsExist, case_active, case_at, case_start}
use Rattle.case_analysis.specs.Reached.{AreReached}
use Rattle.case_analysis.proofs.Inputs.{base_permits}
use Rattle.fixpoint_engine.proofs.Kept.{each_stands}
use Rattle.case_analysis.proofs.Cases.{active_fits, in_cone}
use Rattle.case_analysis.proofs.Answered.{case_ends, case_keeps, case_settles, in_time, soon}
use Rattle.case_analysis.proofs.Together.{active_together, as_one_wave, as_together, base_together}
use Rattle.case_analysis.proofs.Together.{case_together, cone_together}
use Rattle.case_analysis.proofs.case_rounds.case_waves.Goals as goal

pub own_reach-requires-clause-shared : goal.own_reach-requires-clause-shared
own_reach-requires-clause-shared g c =
    subst (λ (vs : List CaseValue). IfSome c.args.cases.now.reached.now (AreReached c.args.c.now vs)) (sym c.case_at-case.ensures)
    c.requires.shared

pub settle-requires-clause-hearers : goal.settle-requires-clause-hearers
settle-requires-clause-hearers g c = c.requires.classes.hearers

pub settle-requires-clause-classes : goal.settle-requires-clause-classes
settle-requires-clause-classes g c =
    let circuit = c.args.c.now in
    let cases = c.args.cases.now.list.now in
    let number = c.args.number in
    let cone = marked_in c.in_ok-reached.reached.cone in
    let exist : NetsExist circuit (case_at cases number) = c.requires.exist in
    let before = waves_of (waves_at c.args.store.now c.args.base.now.numbers) in
    let start = waves_of (waves_at c.start_numbers.new.store c.in_ok-numbers.numbers) in
    let active = c.in_ok-reached.reached.active in
    let is_cone = subst (λ (vs : List CaseValue). IsCone circuit vs cone) c.case_at-case.ensures
    c.in_ok-reached.ensures.cone in
    each_stands circuit cases active c.args.cases.now.classes.now.nets start c.known.ensures
    (active_fits circuit active cone c.in_ok-reached.ensures.active) c.requires.classes.stable
    (λ ks stable.
    let together = cone_together circuit cases ks c.known.ensures stable number c.requires.number
    cone exist is_cone in (
      as_one_wave circuit ks start (case_start circuit (case_at cases number) cone before)
          (λ i. c.in_ok-numbers.ensures.is i
          ∙ ap (λ (vs : List CaseValue). case_start circuit vs cone before i)
          c.case_at-case.ensures)
          (case_together circuit cases ks c.known.ensures stable number c.requires.number cone before
          together
          (base_together circuit cases ks c.known.ensures stable c.args.base.now.rounds
          c.args.base.now.rounds before c.requires.base)),
      as_together circuit ks (marked_in active) (case_active circuit cone) c.in_ok-reached.ensures.active
          (active_together circuit cases ks c.known.ensures stable number c.requires.number cone
          together),
    ))

pub returns-clause-settled : goal.returns-clause-settled
returns-clause-settled g c = rw (← c.case_at-case.ensures) (
    case_settles c.args.c.now c.case_at-case.result.now (marked_in c.in_ok-reached.reached.cone)
    (marked_in c.in_ok-reached.reached.active)
    (waves_of (waves_at c.args.store.now c.args.base.now.numbers))
    (waves_of (waves_at c.start_numbers.new.store c.in_ok-numbers.numbers))
    c.in_ok-reached.ensures.cone c.in_ok-reached.ensures.active c.in_ok-numbers.ensures.is c.settle.result
    (λ active first s. AreSettled c.args.c.now active first c.args.limit s.rounds
    (waves_of (waves_at c.settle.new.store s.numbers))) c.settle.ensures.settled)

pub returns-clause-within : goal.returns-clause-within
returns-clause-within g c = in_time c.settle.result c.args.c.now (marked_in c.in_ok-reached.reached.active)
    (waves_of (waves_at c.start_numbers.new.store c.in_ok-numbers.numbers)) c.args.limit (λ s. s.rounds) (λ s. waves_of (waves_at c.settle.new.store s.numbers)) c.settle.ensures.settled

pub returns-clause-work : goal.returns-clause-work
returns-clause-work g c = rw (← c.case_at-case.ensures) (
    case_settles c.args.c.now c.case_at-case.result.now (marked_in c.in_ok-reached.reached.cone)
    (marked_in c.in_ok-reached.reached.active)
    (waves_of (waves_at c.args.store.now c.args.base.now.numbers))
    (waves_of (waves_at c.start_numbers.new.store c.in_ok-numbers.numbers))
    c.in_ok-reached.ensures.cone c.in_ok-reached.ensures.active c.in_ok-numbers.ensures.is c.settle.result
    (λ active first s. s.evals ≡ evaluations_to c.args.cases.now.classes.now.nets c.args.c.now active
    (round c.args.c.now active first) (s.rounds + 1)) c.settle.ensures.work)

pub returns-clause-sound : goal.returns-clause-sound
returns-clause-sound g c = rw (← c.case_at-case.ensures) (
    let some : 0 < period c.args.c.now.header = subst (λ h. 0 < period h) c.header.ensures (let two = c.known-2.ensures.shortest in omega (arith, two)) in
    case_keeps c.settle.result c.args.c.now c.case_at-case.result.now (marked_in c.in_ok-reached.reached.cone)
    (waves_of (waves_at c.args.store.now c.args.base.now.numbers))
    (waves_of (waves_at c.start_numbers.new.store c.in_ok-numbers.numbers)) c.args.base.now.rounds
    (λ s. s.rounds) (λ s. waves_of (waves_at c.settle.new.store s.numbers))
    some (base_permits c.args.c.now c.args.base.now.rounds c.args.base.now.rounds
    (waves_of (waves_at c.args.store.now c.args.base.now.numbers))
    some c.known.ensures c.requires.base) c.in_ok-numbers.ensures.is c.settle.ensures.sound)

pub returns-clause-unsettled : goal.returns-clause-unsettled
returns-clause-unsettled g c = rw (← c.case_at-case.ensures) (
    case_ends c.args.c.now c.case_at-case.result.now (marked_in c.in_ok-reached.reached.cone)
    (marked_in c.in_ok-reached.reached.active)
    (waves_of (waves_at c.args.store.now c.args.base.now.numbers))
    (waves_of (waves_at c.start_numbers.new.store c.in_ok-numbers.numbers))
    c.in_ok-reached.ensures.cone c.in_ok-reached.ensures.active c.in_ok-numbers.ensures.is c.settle.result
    (λ active first. EndsFor c.args.c.now.order (round c.args.c.now active first) c.args.limit)
    c.settle.ensures.unsettled)

pub returns-clause-loopless : goal.returns-clause-loopless
returns-clause-loopless g c none within =
    soon c.settle.result c.args.c.now (marked_in c.in_ok-reached.reached.active) (waves_of (waves_at c.start_numbers.new.store c.in_ok-numbers.numbers)) c.args.limit (λ s. s.rounds) (λ s. waves_of (waves_at c.settle.new.store s.numbers))
    c.known.ensures none within c.settle.ensures.settled c.settle.ensures.unsettled

pub returns-clause-cone : goal.returns-clause-cone
returns-clause-cone g c =
    rw (← c.case_at-case.ensures)
    (in_cone c.args.c.now c.case_at-case.result.now (marked_in c.in_ok-reached.reached.cone)
    c.in_ok-reached.ensures.cone c.settle.result)
