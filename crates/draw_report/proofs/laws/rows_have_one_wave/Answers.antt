use Rattle.draw_report.proofs.Cutting.{rows_are}
use Rattle.draw_report.proofs.laws.rows_have_one_wave.Goals as goal

pub returns : goal.returns
returns c = rows_are
