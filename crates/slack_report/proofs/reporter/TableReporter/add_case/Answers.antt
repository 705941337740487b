use Rattle.std.proofs.lemmas.Result.{on_ok_weaker}
use Rattle.timing_analysis.specs.Settled.{settled_case}
use Rattle.slack_report.specs.Answer.{cases_of}
use Rattle.slack_report.proofs.Gathered.{rows_more}
use Rattle.slack_report.proofs.reporter.TableReporter.add_case.Goals as goal

pub returns-clause-holds : goal.returns-clause-holds
returns-clause-holds g c =
    let case = c.args.case.now in
    on_ok_weaker c.add_case.result
    (λ are asked kept limit base listed cases is holds.
    rows_more c.args.circuit.now cases
    (settled_case listed case.settled.rounds c.args.waves.now) case.number c.add_case.new.rows
    is.numbered
    (are (cases_of cases) holds))
    c.add_case.ensures

pub returns-clause-ready : goal.returns-clause-ready
returns-clause-ready g c =
    on_ok_weaker c.add_case.result (λ are. (_, are c.requires.ready.0 c.requires.ready.1))
    c.add_case.ensures
