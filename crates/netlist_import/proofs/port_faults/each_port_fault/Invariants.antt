use Rattle.std.proofs.Common.{◌≡◌, map, drop}
use Rattle.netlist_import.specs.Fault.{each, port_fault}
use Rattle.netlist_import.specs.Placed.{member_of}
use Rattle.netlist_import.proofs.port_faults.each_port_fault.Given as goal

abbrev pub invariant-loop-port : goal.invariant-loop-port
invariant-loop-port l =
    each port_fault (map member_of l.ports) ≡ each port_fault
    (map member_of (drop l.port-index l.ports))
