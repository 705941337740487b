use Rattle.flat_circuit.proofs.Ends.{NetsTo}
use Rattle.flat_circuit.proofs.finish.nets.Given as goal

abbrev pub invariant-loop-entry : goal.invariant-loop-entry
invariant-loop-entry l = NetsTo l.initial.entry-iterator l.assertions l.drivers l.nets l.entry-iterator
