use Rattle.std.proofs.Common.{◌+◌, refl, arith}
use Rattle.scald_tool.proofs.Writing.{has_more}
use Rattle.scald_tool.proofs.report.ReportReporter.add_case.Goals as goal

pub add_case-requires-clause-are : goal.add_case-requires-clause-are
add_case-requires-clause-are g c = c.requires.ready.are

pub returns-clause-ready : goal.returns-clause-ready
returns-clause-ready g c = record {
  are = c.in_ok-add_case.ensures.are;
  few = omega (arith, c.requires.ready.few, c.requires.few, c.len.ensures);
}

pub returns-clause-holds : goal.returns-clause-holds
returns-clause-holds g c mode version limit base listed cases is has =
    let case = c.args.case.now in
    has_more mode version c.args.circuit.now base c.args.self.now _ limit listed case.number
    case.settled.rounds case.tick c.args.waves.now
    case.faults cases is refl refl c.in_ok-add_case.ensures.text
    (λ k. c.args.self.now.total + c.len.ensures k) has
