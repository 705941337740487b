use Rattle.flat_circuit.proofs.Instancewise.{runs_go_by_instances as law}
use Rattle.flat_circuit.proofs.laws.runs_go_by_instances.Goals as goal

pub returns : goal.returns
returns c = law
