use Rattle.std.proofs.Common.{◌∙◌, [], subst, sym}
use Rattle.std.proofs.lemmas.List.Elements.{All-nil}
use Rattle.std.proofs.lemmas.Result.{on_ok_weaker}
use Rattle.case_analysis.specs.Case.{NetsExist}
use Rattle.program_call.proofs.Reporting.{none_listed, some_listed}
use Rattle.fault_decider.proofs.report.add_only_case.Goals as goal

pub returns-then-not-is_empty : goal.returns-then-not-is_empty
returns-then-not-is_empty c of_cases =
    some_listed c.args.subject.now.circuit c.args.limit c.args.settled.base.rounds
    c.args.subject.now.cases _
    (sym c.is_empty.ensures ∙ c.if-not-is_empty.true) of_cases

pub add_case-requires-clause-exist : goal.add_case-requires-clause-exist
add_case-requires-clause-exist c =
    subst (NetsExist c.args.subject.now.circuit) (sym c.new-none.ensures) (All-nil _)

pub add_case-requires-clause-known : goal.add_case-requires-clause-known
add_case-requires-clause-known c = c.in_ok-store.ensures.are

pub add_case-requires-clause-fit : goal.add_case-requires-clause-fit
add_case-requires-clause-fit c = c.in_ok-store.ensures.settled.fit

pub returns : goal.returns
returns c =
    on_ok_weaker c.add_case.result
    (λ more of_cases.
    none_listed c.args.subject.now.circuit c.args.limit c.args.settled.base.rounds
    c.args.subject.now.cases _ _
    (sym c.is_empty.ensures ∙ c.if-not-is_empty.false)
    (λ none. more c.args.limit [] (record { number = 0; values = [] }) (sym c.new-none.ensures)
    c.in_ok-store.ensures none)
    of_cases)
    c.add_case.ensures
