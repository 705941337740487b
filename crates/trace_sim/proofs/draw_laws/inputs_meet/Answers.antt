use Rattle.trace_sim.proofs.Inputs.{inputs_meet}
use Rattle.trace_sim.proofs.draw_laws.inputs_meet.Goals as goal

pub returns : goal.returns
returns c = inputs_meet
