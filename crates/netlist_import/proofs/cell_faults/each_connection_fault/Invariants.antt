use Rattle.std.proofs.Common.{◌≡◌, map, drop, option_map}
use Rattle.netlist_import.specs.Fault.{each, connection_fault}
use Rattle.netlist_import.specs.Placed.{member_of}
use Rattle.netlist_import.proofs.cell_faults.each_connection_fault.Given as goal

abbrev pub invariant-loop-connection : goal.invariant-loop-connection
invariant-loop-connection l =
    each (connection_fault (option_map (λ ps. ps.now) l.ports) (map member_of l.directions))
    (map member_of l.connections)
    ≡ each (connection_fault (option_map (λ ps. ps.now) l.ports) (map member_of l.directions))
    (map member_of (drop l.connection-index l.connections))
