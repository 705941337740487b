use Rattle.std.proofs.Common.{◌≡◌, ◌≤◌, take}
use Rattle.netlist_import.proofs.kind_ports.KindPorts.formals.Given as goal

abbrev pub invariant-loop-place : goal.invariant-loop-place
invariant-loop-place l = l.formals ≡ take l.place l.self
