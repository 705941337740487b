use Rattle.std.proofs.Common.{◌≡◌, drop}
use Rattle.std.specs.List.{find}
use Rattle.std.specs.Str.{bytes_eq}
use Rattle.netlist_import.proofs.index.first_named.Given as goal

abbrev pub invariant-loop-item : goal.invariant-loop-item
invariant-loop-item g l =
    find (λ x. bytes_eq (g.T.Named.name x) l.name) (drop l.item-index l.items)
    ≡ find (λ x. bytes_eq (g.T.Named.name x) l.name) l.items
