use Rattle.std.proofs.Common.{ap}
use Rattle.drawing_tree.specs.Canonical.{canonical}
use Rattle.slack_report.proofs.reporter.ParagraphsReporter.keep.Goals as goal

pub returns : goal.returns
returns c = ap canonical c.in_ok-copy.ensures
