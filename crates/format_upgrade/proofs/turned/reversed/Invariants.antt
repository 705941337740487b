use Rattle.std.proofs.Common.{◌≡◌, ◌≤◌, ◌++◌, map, take, drop}
use Rattle.std.specs.Prelude.{reverse}
use Rattle.drawing_tree.specs.Tree.{connection_of}
use Rattle.format_upgrade.proofs.turned.reversed.Given as goal

abbrev pub decreases-loop-place : goal.decreases-loop-place
decreases-loop-place l = l.place

-- those from a place on, before the count, in reverse order
abbrev pub invariant-loop-place : goal.invariant-loop-place
invariant-loop-place l =
    (l.place ≤ l.count) × (map connection_of l.copies ≡ reverse (map connection_of (drop l.place (take l.count l.items))))

abbrev pub invariant-loop-item : goal.invariant-loop-item
invariant-loop-item l =
    map connection_of l.copies
    ≡ reverse (map connection_of (take l.count l.items)) ++ map connection_of (take l.item-index (drop l.count l.items))
