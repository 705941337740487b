use Rattle.std.proofs.Common.{arith}
use Rattle.flat_circuit.proofs.Counts.{length_few}
use Rattle.flat_circuit.proofs.circuit.Circuit.instance_count.Goals as goal

pub overflow_cast-result : goal.overflow_cast-result
overflow_cast-result c = let few = length_few c.self.inside.instances c.self.invariant.0.few in omega (arith, c.len.ensures)
