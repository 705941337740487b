use Rattle.flat_circuit.proofs.Parts.{unnamed_bits_are_free as law}
use Rattle.flat_circuit.proofs.laws.unnamed_bits_are_free.Goals as goal

pub returns : goal.returns
returns c = law
