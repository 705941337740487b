use Rattle.std.proofs.Common.{◌≡◌, map, drop}
use Rattle.netlist_import.specs.Placed.{field, member_of}
use Rattle.netlist_import.proofs.value.field.Given as goal

abbrev pub invariant-loop-member : goal.invariant-loop-member
invariant-loop-member l =
    field l.name (map member_of l.members) ≡ field l.name
    (map member_of (drop l.member-index l.members))
