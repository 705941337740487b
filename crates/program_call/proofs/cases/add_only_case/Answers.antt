use Rattle.std.proofs.Common.{◌∙◌, [], length, sym, subst}
use Rattle.std.proofs.lemmas.Result.{on_ok_weaker}
use Rattle.program_call.proofs.Reporting.{none_listed, none_long, some_listed}
use Rattle.program_call.proofs.cases.add_only_case.Goals as goal

pub returns-then-not-is_empty-clause-ready : goal.returns-then-not-is_empty-clause-ready
returns-then-not-is_empty-clause-ready g c = (length c.args.subject.now.cases, c.requires.ready)

pub returns-then-not-is_empty-clause-holds : goal.returns-then-not-is_empty-clause-holds
returns-then-not-is_empty-clause-holds g c asked kept of_cases =
    some_listed c.args.subject.now.circuit c.args.limit c.args.settled_base.base.rounds
    c.args.subject.now.cases _
    (sym c.is_empty.ensures ∙ c.if-not-is_empty.true) of_cases

pub add_case-requires-clause-ready : goal.add_case-requires-clause-ready
add_case-requires-clause-ready g c =
    subst (g.R.Reporter.ready c.args.reporter.now c.args.subject.now.circuit)
    (none_long c.args.subject.now.cases (sym c.is_empty.ensures ∙ c.if-not-is_empty.false))
    c.requires.ready

pub add_case-requires-clause-known : goal.add_case-requires-clause-known
add_case-requires-clause-known g c = c.in_ok-store.ensures.are

pub add_case-requires-clause-fit : goal.add_case-requires-clause-fit
add_case-requires-clause-fit g c = c.in_ok-store.ensures.settled.fit

pub add_case-requires-clause-few : goal.add_case-requires-clause-few
add_case-requires-clause-few g c = c.in_ok-store.ensures.settled.few

pub returns-clause-ready : goal.returns-clause-ready
returns-clause-ready g c =
    on_ok_weaker c.add_case.result (λ ready. (1, ready)) c.add_case.ensures.ready

pub returns-clause-holds : goal.returns-clause-holds
returns-clause-holds g c =
    on_ok_weaker c.add_case.result
    (λ more asked kept of_cases.
    none_listed c.args.subject.now.circuit c.args.limit c.args.settled_base.base.rounds
    c.args.subject.now.cases _ _
    (sym c.is_empty.ensures ∙ c.if-not-is_empty.false)
    (λ none. more asked kept c.args.limit c.args.settled_base.base.rounds []
    (record { number = 0; values = [] }) c.in_ok-store.ensures none)
    of_cases)
    c.add_case.ensures.holds
