use Rattle.std.proofs.Common.{◌≡◌, map, take}
use Rattle.netlist_import.specs.Netlist.{module_of}
use Rattle.netlist_import.specs.Placed.{member_of}
use Rattle.netlist_import.proofs.module.modules_listed.Given as goal

abbrev pub invariant-loop-member : goal.invariant-loop-member
invariant-loop-member l = l.modules ≡ map module_of (map member_of (take l.member-index l.members))
