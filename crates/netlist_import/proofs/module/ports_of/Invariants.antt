use Rattle.std.proofs.Common.{◌≡◌, map, take}
use Rattle.netlist_import.specs.Netlist.{port_of}
use Rattle.netlist_import.specs.Placed.{member_of}
use Rattle.netlist_import.proofs.module.ports_of.Given as goal

abbrev pub invariant-loop-member : goal.invariant-loop-member
invariant-loop-member l = l.ports ≡ map port_of (map member_of (take l.member-index l.members))
