use Rattle.flat_circuit.specs.Steps.{DrivenTo}
use Rattle.flat_circuit.proofs.drivers.drivers.Given as goal

abbrev pub invariant-loop-k : goal.invariant-loop-k
invariant-loop-k l = DrivenTo l.instances l.nets l.k l.drivers.items
