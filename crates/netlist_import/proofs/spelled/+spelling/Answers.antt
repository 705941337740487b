use Rattle.std.proofs.Common.{◌++◌, map, take, sym, ap, ◌∙◌, append_assoc}
use Rattle.std.specs.List.{flat_map}
use Rattle.netlist_import.specs.Placed.{member_of, member_spelled, placed_of, spelled}
use Rattle.netlist_import.proofs.Joined.{flat_map_take}
use Rattle.netlist_import.proofs.spelled.+spelling.Goals as goal

pub spell_items-items-preserved : goal.spell_items-items-preserved
spell_items-items-preserved t c =
    let xs = c.args.items.now in
    let i = c.items.item-index in
    let x = c.item-item.result in
    let before = flat_map spelled (map placed_of (take i xs)) in
    c.in_ok-spell.ensures
    ∙ (ap (λ out. out ++ spelled (placed_of x)) c.items.invariant
    ∙ (append_assoc c.args.out.now before (spelled (placed_of x))
    ∙ ap (λ more. c.args.out.now ++ more) (sym
    (flat_map_take spelled placed_of xs i x c.items-test.true c.item-item.is))))

pub spell_members-members-preserved : goal.spell_members-members-preserved
spell_members-members-preserved t c =
    let xs = c.args.members.now in
    let i = c.members.member-index in
    let x = c.member-item.result in
    let before = flat_map member_spelled (map member_of (take i xs)) in
    c.in_ok-spell_member.ensures
    ∙ (ap (λ out. out ++ member_spelled (member_of x)) c.members.invariant
    ∙ (append_assoc c.args.out.now before (member_spelled (member_of x))
    ∙ ap (λ more. c.args.out.now ++ more) (sym
    (flat_map_take member_spelled member_of xs i x c.members-test.true c.member-item.is))))
