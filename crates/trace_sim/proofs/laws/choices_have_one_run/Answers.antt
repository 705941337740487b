use Rattle.trace_sim.proofs.One.{choices_have_one_run as law}
use Rattle.trace_sim.proofs.laws.choices_have_one_run.Goals as goal

pub returns : goal.returns
returns c = law
