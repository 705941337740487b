use Rattle.std.proofs.Common.{◌≡◌, map, take}
use Rattle.netlist_import.specs.Netlist.{connection_of}
use Rattle.netlist_import.specs.Placed.{member_of}
use Rattle.netlist_import.proofs.module.connections_listed.Given as goal

abbrev pub invariant-loop-member : goal.invariant-loop-member
invariant-loop-member l = l.ports ≡ map (connection_of (map member_of l.directions))
    (map member_of (take l.member-index l.members))
