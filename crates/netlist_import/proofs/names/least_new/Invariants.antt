use Rattle.netlist_import.specs.Fresh.{AreTaken}
use Rattle.netlist_import.proofs.names.least_new.Given as goal

abbrev pub invariant-loop-number : goal.invariant-loop-number
invariant-loop-number l = AreTaken l.taken.keys l.wanted l.number
