use Rattle.scald_tool.proofs.Writing.{is_reported}
use Rattle.scald_tool.proofs.report.ReportReporter.end.Goals as goal

pub end-requires : goal.end-requires
end-requires c = c.requires.1.are

pub returns : goal.returns
returns c mode version base cases has =
    is_reported mode version c.args.circuit.now base c.args.self cases _ _ c.verdict.ensures
    c.in_ok-bytes.ensures has
