use Rattle.trace_sim.proofs.Inputs.{cases_hold}
use Rattle.trace_sim.proofs.draw_laws.cases_hold.Goals as goal

pub returns : goal.returns
returns c = cases_hold
