use Rattle.std.proofs.Common.{◌∙◌, [], sym, arith}
use Rattle.std.proofs.lemmas.Result.{on_ok_weaker}
use Rattle.fixpoint_engine.specs.Table.{waves_at}
use Rattle.program_call.proofs.Reporting.{none_listed, none_long, some_listed}
use Rattle.draw_report.proofs.Seeking.{both_on_ok, of_sought}
use Rattle.draw_report.proofs.sought.add_only_case.Goals as goal

pub returns-then-not-is_empty : goal.returns-then-not-is_empty
returns-then-not-is_empty g c of_cases =
    some_listed c.args.subject.now.circuit c.args.limit c.args.base.base.rounds
    c.args.subject.now.cases _
    (sym c.is_empty.ensures ∙ c.if-not-is_empty.true) of_cases

pub add_case-requires-clause-room : goal.add_case-requires-clause-room
add_case-requires-clause-room g c =
    let few = c.requires.room in
    let one = c.in_ok-store.ensures.settled.few in
    let none = none_long c.args.subject.now.cases (sym c.is_empty.ensures ∙ c.if-not-is_empty.false) in
    omega (arith, few, one, none)

pub add_case-requires-clause-known : goal.add_case-requires-clause-known
add_case-requires-clause-known g c = c.in_ok-store.ensures.are

pub add_case-requires-clause-fit : goal.add_case-requires-clause-fit
add_case-requires-clause-fit g c = c.in_ok-store.ensures.settled.fit

pub returns : goal.returns
returns g c =
    let case = c.in_ok-store.case in
    on_ok_weaker c.add_case.result
    (λ added of_cases.
    none_listed c.args.subject.now.circuit c.args.limit c.args.base.base.rounds
    c.args.subject.now.cases _ _
    (sym c.is_empty.ensures ∙ c.if-not-is_empty.false)
    (λ none. of_sought c.args.subject.now.circuit c.args.base.base.rounds c.args.limit c.args.asked []
    (record { number = 0; values = [] }) case.number case.settled.rounds case.tick
    (waves_at c.in_ok-store.store case.settled.numbers) case.faults _ _
    c.in_ok-store.ensures.settled added.0 added.1 none)
    of_cases)
    (both_on_ok _ _ c.add_case.result c.add_case.ensures.count c.add_case.ensures.found)
