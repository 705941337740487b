use Rattle.draw_report.proofs.Reading.{reads_back}
use Rattle.draw_report.proofs.laws.trees_are_read_back.Goals as goal

pub returns : goal.returns
returns c = reads_back
