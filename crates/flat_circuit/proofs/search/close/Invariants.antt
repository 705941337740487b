use Rattle.std.proofs.Common.{◌≡◌, drop}
use Rattle.flat_circuit.specs.Search.{closed}
use Rattle.flat_circuit.proofs.search.close.Given as goal

abbrev pub invariant-loop-frame : goal.invariant-loop-frame
invariant-loop-frame l = closed l.marks (drop l.frame-index l.path) ≡ closed l.initial.marks l.path
