use Rattle.flat_circuit.proofs.Splits.{turned as law}
use Rattle.flat_circuit.proofs.split.rise_mirrors_fall.Goals as goal

pub returns : goal.returns
returns c = law
