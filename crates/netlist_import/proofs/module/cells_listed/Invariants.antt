use Rattle.std.proofs.Common.{◌≡◌, map, take}
use Rattle.netlist_import.specs.Netlist.{cell_of}
use Rattle.netlist_import.specs.Placed.{member_of}
use Rattle.netlist_import.proofs.module.cells_listed.Given as goal

abbrev pub invariant-loop-member : goal.invariant-loop-member
invariant-loop-member l = l.cells ≡ map cell_of (map member_of (take l.member-index l.members))
