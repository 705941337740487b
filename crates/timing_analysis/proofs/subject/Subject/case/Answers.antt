use Rattle.std.proofs.Common.{◌+◌, [], refl, subst}
use Rattle.std.proofs.lemmas.Result.{err_from_is_err_and}
use Rattle.case_analysis.specs.Case.{case_at}
use Rattle.timing_analysis.specs.Ended.{EndsCase}
use Rattle.timing_analysis.specs.Settled.{IsCaseIn}
use Rattle.timing_analysis.proofs.Settling.{case_settled, case_ends, case_settles}
use Rattle.timing_analysis.proofs.Stored.{base_grown, own_limit}
use Rattle.timing_analysis.proofs.subject.Subject.case.Goals as goal

pub case_waves-requires-clause-known : goal.case_waves-requires-clause-known
case_waves-requires-clause-known g c =
    (c.in_ok-shorten.ensures.kept c.args.self.now.circuit c.args.limit c.requires.settled).are

pub case_waves-requires-clause-shared : goal.case_waves-requires-clause-shared
case_waves-requires-clause-shared g c = c.requires.is.reached c.args.place [] c.requires.inside

pub case_waves-requires-clause-base : goal.case_waves-requires-clause-base
case_waves-requires-clause-base g c =
    own_limit c.args.self.now.circuit c.args.limit _ _ (c.in_ok-shorten.ensures.kept c.args.self.now.circuit c.args.limit c.requires.settled).settled.settled

pub case_waves-requires-clause-fit : goal.case_waves-requires-clause-fit
case_waves-requires-clause-fit g c =
    (c.in_ok-shorten.ensures.kept c.args.self.now.circuit c.args.limit c.requires.settled).settled.fit

pub returns-in_err-settled-clause-kept : goal.returns-in_err-settled-clause-kept
returns-in_err-settled-clause-kept g c =
    let p = err_from_is_err_and c.from_residual-in_err-settled.result c.from_residual-in_err-settled.ensures.1 in
    rw (p.1, p.2) (λ other. base_grown c.args.self.now.circuit c.args.limit
    c.shorten.new.self.base.rounds c.shorten.new.self.store c.case_waves.new.store
    c.shorten.new.self.base.numbers c.shorten.new.self.known c.in_err-settled.ensures.grows (c.in_ok-shorten.ensures.kept c.args.self.now.circuit c.args.limit c.requires.settled))

pub returns-in_err-settled-clause-unsettled : goal.returns-in_err-settled-clause-unsettled
returns-in_err-settled-clause-unsettled g c =
    let kept = c.in_ok-shorten.ensures.kept c.args.self.now.circuit c.args.limit c.requires.settled in
    let values = case_at c.args.self.now.cases c.args.place in
    let p = err_from_is_err_and c.from_residual-in_err-settled.result c.from_residual-in_err-settled.ensures.1 in
    rw (p.1, p.2) (subst (λ b. EndsCase c.args.self.now.circuit c.args.limit b (record { number = c.args.place + 1; values = values }) c.in_err-settled.field-0.0)
    c.shorten.ensures.round
    (case_ends c.args.self.now.circuit c.args.limit c.shorten.new.self.base.rounds (c.args.place + 1) values _ kept.settled.settled.waves c.in_err-settled.field-0.0
    c.in_err-settled.ensures.cone c.in_err-settled.ensures.unsettled))

pub faults_from-requires-clause-base : goal.faults_from-requires-clause-base
faults_from-requires-clause-base g c =
    (base_grown c.args.self.now.circuit c.args.limit c.shorten.new.self.base.rounds
    c.shorten.new.self.store c.case_waves.new.store
    c.shorten.new.self.base.numbers c.shorten.new.self.known c.in_ok-settled.ensures.grows (c.in_ok-shorten.ensures.kept c.args.self.now.circuit c.args.limit c.requires.settled)).are

pub faults_from-requires-clause-before : goal.faults_from-requires-clause-before
faults_from-requires-clause-before g c =
    (base_grown c.args.self.now.circuit c.args.limit c.shorten.new.self.base.rounds
    c.shorten.new.self.store c.case_waves.new.store
    c.shorten.new.self.base.numbers c.shorten.new.self.known c.in_ok-settled.ensures.grows (c.in_ok-shorten.ensures.kept c.args.self.now.circuit c.args.limit c.requires.settled)).settled.fit

pub faults_from-requires-clause-known : goal.faults_from-requires-clause-known
faults_from-requires-clause-known g c =
    (base_grown c.args.self.now.circuit c.args.limit c.shorten.new.self.base.rounds
    c.shorten.new.self.store c.case_waves.new.store
    c.shorten.new.self.base.numbers c.shorten.new.self.known c.in_ok-settled.ensures.grows (c.in_ok-shorten.ensures.kept c.args.self.now.circuit c.args.limit c.requires.settled)).settled.are_known

pub returns-clause-kept : goal.returns-clause-kept
returns-clause-kept g c =
    base_grown c.args.self.now.circuit c.args.limit c.shorten.new.self.base.rounds
    c.shorten.new.self.store c.case_waves.new.store
    c.shorten.new.self.base.numbers c.shorten.new.self.known c.in_ok-settled.ensures.grows (c.in_ok-shorten.ensures.kept c.args.self.now.circuit c.args.limit c.requires.settled)

pub returns-clause-settled : goal.returns-clause-settled
returns-clause-settled g c =
    let kept = c.in_ok-shorten.ensures.kept c.args.self.now.circuit c.args.limit c.requires.settled in
    let values = case_at c.args.self.now.cases c.args.place in
    subst (λ b. IsCaseIn c.args.self.now.circuit c.args.limit b (record { number = c.args.place + 1; values = values })
    c.case_waves.new.store (record {
      number = c.args.place + 1;
      settled = c.in_ok-settled.settled;
      tick = c.tick-tick.result;
      faults = c.in_ok-found.found;
    }))
    c.shorten.ensures.round
    (record {
      are = c.in_ok-settled.ensures.known;
      settled = case_settled c.args.self.now.circuit c.args.limit c.shorten.new.self.base.rounds
          (record { number = c.args.place + 1; values = values }) c.in_ok-settled.settled.rounds _ c.in_ok-found.found
          (c.args.place + 1) c.tick-tick.result c.args.self.now.reach refl c.in_ok-settled.ensures.within c.in_ok-settled.ensures.fit
          (case_settles c.args.self.now.circuit c.args.limit c.shorten.new.self.base.rounds (c.args.place + 1) values _
          kept.settled.settled.waves c.in_ok-settled.settled.rounds _ c.in_ok-settled.ensures.cone c.in_ok-settled.ensures.settled)
          c.tick-tick.ensures c.requires.is.reach_is c.in_ok-found.ensures.are c.in_ok-found.ensures.few
          (c.in_ok-found.ensures.keep values c.shorten.new.self.base.rounds c.in_ok-settled.settled.rounds c.in_ok-settled.ensures.sound);
    })
