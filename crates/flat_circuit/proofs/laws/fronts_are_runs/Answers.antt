use Rattle.flat_circuit.proofs.Parts.{front_is_run as law}
use Rattle.flat_circuit.proofs.laws.fronts_are_runs.Goals as goal

pub returns : goal.returns
returns c = law
