use Rattle.draw_report.proofs.Shading.{shades_steps}
use Rattle.draw_report.proofs.laws.steps_are_shaded.Goals as goal

pub returns : goal.returns
returns c = shades_steps
