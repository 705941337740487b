use Rattle.std.proofs.Common.{◌≡◌, ◌++◌, map, take}
use Rattle.std.specs.List.{flat_map}
use Rattle.netlist_import.specs.Placed.{member_of, member_spelled, placed_of, spelled}
use Rattle.netlist_import.proofs.spelled.+spelling.Given as goal

abbrev pub invariant-spell_items-items : goal.invariant-spell_items-items
invariant-spell_items-items l = l.out ≡ l.initial.out
    ++ flat_map spelled (map placed_of (take l.item-index l.items))

abbrev pub invariant-spell_members-members : goal.invariant-spell_members-members
invariant-spell_members-members l = l.out ≡ l.initial.out
    ++ flat_map member_spelled (map member_of (take l.member-index l.members))
