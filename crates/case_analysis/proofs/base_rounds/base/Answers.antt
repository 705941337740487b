use Rattle.std.proofs.Common.{◌≡◌, ◌∙◌, ◌<◌, ◌+◌, IfErr, IfOk, sym, subst}
use Rattle.std.proofs.Common.{arith}
use Rattle.scald_base.specs.Time.{Header, period}
use Rattle.fixpoint_engine.specs.Table.{waves_at}
use Rattle.fixpoint_engine.specs.Waves.{waves_of}
use Rattle.fixpoint_engine.specs.Key.{AreConstants}
use Rattle.fixpoint_engine.specs.Members.{evaluations_to}
use Rattle.fixpoint_engine.specs.End.{EndsFor}
use Rattle.fixpoint_engine.specs.Rounds.{round}
use Rattle.fixpoint_engine.specs.Settled.{AreSettled, marked_in}
use Rattle.fixpoint_engine.specs.Start.{base_start, is_driven}
use Rattle.fixpoint_engine.proofs.Kept.{each_stands}
use Rattle.fixpoint_engine.proofs.Numbered.{constants_still}
use Rattle.case_analysis.proofs.Inputs.{as_base}
use Rattle.case_analysis.proofs.Answered.{base_keeps, in_time, soon}
use Rattle.case_analysis.proofs.Together.{as_one_wave, as_together, driven_together, start_together}
use Rattle.case_analysis.proofs.base_rounds.base.Goals as goal

pub settle-requires-clause-constants : goal.settle-requires-clause-constants
settle-requires-clause-constants g c =
    constants_still c.args.c.now.header c.constant_numbers.new.store c.start_numbers.new.store
    c.in_ok-constants.constants
    c.in_ok-numbers.ensures.grows
    (subst (λ (h : Header). AreConstants h c.constant_numbers.new.store c.in_ok-constants.constants)
    c.header-2.ensures c.in_ok-constants.ensures.are)

pub settle-requires-clause-hearers : goal.settle-requires-clause-hearers
settle-requires-clause-hearers g c = c.requires.hearers

pub settle-requires-clause-classes : goal.settle-requires-clause-classes
settle-requires-clause-classes g c =
    let circuit = c.args.c.now in
    let start = waves_of (waves_at c.start_numbers.new.store c.in_ok-numbers.numbers) in
    each_stands circuit c.args.cases.now c.in_ok-active.active c.args.classes.now.nets start
    c.known.ensures
    (λ i on. sym (c.in_ok-active.ensures.driven i) ∙ on) c.requires.stable
    (λ ks stable. (
      as_one_wave circuit ks start (base_start circuit) c.in_ok-numbers.ensures.is
          (start_together circuit c.args.cases.now ks c.known.ensures stable),
      as_together circuit ks (marked_in c.in_ok-active.active) (is_driven circuit)
          c.in_ok-active.ensures.driven
          (driven_together circuit c.args.cases.now ks c.known.ensures stable),
    ))

pub returns-clause-settled : goal.returns-clause-settled
returns-clause-settled g c =
    as_base c.args.c.now (marked_in c.in_ok-active.active) (waves_of (waves_at c.start_numbers.new.store c.in_ok-numbers.numbers))
    (λ active first. IfOk c.settle.result (λ s. AreSettled c.args.c.now active first c.args.limit s.rounds (waves_of (waves_at c.settle.new.store s.numbers))))
    c.in_ok-active.ensures.driven (λ k i. c.in_ok-numbers.ensures.is i k)
    c.settle.ensures.settled

pub returns-clause-within : goal.returns-clause-within
returns-clause-within g c = in_time c.settle.result c.args.c.now (marked_in c.in_ok-active.active)
    (waves_of (waves_at c.start_numbers.new.store c.in_ok-numbers.numbers)) c.args.limit (λ s. s.rounds) (λ s. waves_of (waves_at c.settle.new.store s.numbers)) c.settle.ensures.settled

pub returns-clause-work : goal.returns-clause-work
returns-clause-work g c =
    as_base c.args.c.now (marked_in c.in_ok-active.active) (waves_of (waves_at c.start_numbers.new.store c.in_ok-numbers.numbers))
    (λ active first. IfOk c.settle.result
    (λ s. s.evals ≡ evaluations_to c.args.classes.now.nets c.args.c.now active
    (round c.args.c.now active first) (s.rounds + 1)))
    c.in_ok-active.ensures.driven (λ k i. c.in_ok-numbers.ensures.is i k)
    c.settle.ensures.work

pub returns-clause-sound : goal.returns-clause-sound
returns-clause-sound g c =
    let some : 0 < period c.args.c.now.header = subst (λ h. 0 < period h) c.header.ensures (let two = c.known-2.ensures.shortest in omega (arith, two)) in
    base_keeps c.settle.result c.args.c.now (waves_of (waves_at c.start_numbers.new.store c.in_ok-numbers.numbers)) (λ s. s.rounds) (λ s. waves_of (waves_at c.settle.new.store s.numbers))
    some c.in_ok-numbers.ensures.is c.settle.ensures.sound

pub returns-clause-unsettled : goal.returns-clause-unsettled
returns-clause-unsettled g c =
    as_base c.args.c.now (marked_in c.in_ok-active.active) (waves_of (waves_at c.start_numbers.new.store c.in_ok-numbers.numbers))
    (λ active first. IfErr c.settle.result (EndsFor c.args.c.now.order (round c.args.c.now active first) c.args.limit))
    c.in_ok-active.ensures.driven (λ k i. c.in_ok-numbers.ensures.is i k)
    c.settle.ensures.unsettled

pub returns-clause-loopless : goal.returns-clause-loopless
returns-clause-loopless g c none within =
    soon c.settle.result c.args.c.now (marked_in c.in_ok-active.active) (waves_of (waves_at c.start_numbers.new.store c.in_ok-numbers.numbers)) c.args.limit (λ s. s.rounds) (λ s. waves_of (waves_at c.settle.new.store s.numbers))
    c.known.ensures none within c.settle.ensures.settled c.settle.ensures.unsettled
