use Rattle.std.proofs.Common.{◌≡◌, ◌++◌, drop}
use Rattle.netlist_import.specs.Kinds.{formals_of}
use Rattle.netlist_import.proofs.shapes.formals_of.Given as goal

abbrev pub invariant-loop-port : goal.invariant-loop-port
invariant-loop-port l = formals_of l.ports ≡ l.formals ++ formals_of (drop l.port-index l.ports)
