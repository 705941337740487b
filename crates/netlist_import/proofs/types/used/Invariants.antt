use Rattle.std.proofs.Common.{◌≡◌, take, List, ℕ}
use Rattle.std.specs.Borrow.{Bor}
use Rattle.std.specs.List.{list_any}
use Rattle.netlist_import.specs.Fault.{is_used}
use Rattle.netlist_import.specs.Index.{is_key}
use Rattle.netlist_import.proofs.types.used.Given as goal

abbrev pub invariant-loop-module : goal.invariant-loop-module
invariant-loop-module l = (name : Bor (List ℕ)) → list_any (is_key name) l.used.keys
    ≡ is_used (take l.module-index l.modules) name.now
