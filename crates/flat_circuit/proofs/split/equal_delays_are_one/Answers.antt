use Rattle.flat_circuit.proofs.Splits.{equal_delays as law}
use Rattle.flat_circuit.proofs.split.equal_delays_are_one.Goals as goal

pub returns : goal.returns
returns c = law
