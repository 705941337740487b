use Rattle.flat_circuit.specs.Steps.{RowsTo}
use Rattle.flat_circuit.proofs.readers.readers.Given as goal

abbrev pub invariant-loop-k : goal.invariant-loop-k
invariant-loop-k l = RowsTo l.instances l.nets l.k l.rows.items
