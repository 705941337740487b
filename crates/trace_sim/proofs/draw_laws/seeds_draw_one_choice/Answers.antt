use Rattle.trace_sim.proofs.Inputs.{one_drawn}
use Rattle.trace_sim.proofs.draw_laws.seeds_draw_one_choice.Goals as goal

pub returns : goal.returns
returns c = one_drawn
