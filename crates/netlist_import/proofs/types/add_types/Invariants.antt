use Rattle.std.proofs.Common.{◌≡◌, ◌||◌, take, List, ℕ}
use Rattle.std.specs.Borrow.{Bor}
use Rattle.std.specs.List.{list_any}
use Rattle.netlist_import.specs.Index.{is_key}
use Rattle.netlist_import.specs.Types.{is_of}
use Rattle.netlist_import.proofs.types.add_types.Given as goal

abbrev pub invariant-loop-cell : goal.invariant-loop-cell
invariant-loop-cell l = (name : Bor (List ℕ)) → list_any (is_key name) l.used.keys
    ≡ (list_any (is_key name) l.initial.used.keys || list_any (is_of name.now)
    (take l.cell-index l.cells))
