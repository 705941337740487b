use Rattle.trace_sim.proofs.Exists.{runs_exist as law}
use Rattle.trace_sim.proofs.laws.runs_exist.Goals as goal

pub returns : goal.returns
returns c = law
