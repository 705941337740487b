use Rattle.draw_report.proofs.Showing.{row_shows_wave}
use Rattle.draw_report.proofs.laws.rows_show_waves.Goals as goal

pub returns : goal.returns
returns c = row_shows_wave
