use Rattle.std.proofs.Common.{◌≡◌, ◌++◌, map, drop}
use Rattle.netlist_import.specs.Kinds.{all_cells, all_uses_after, kinds_after}
use Rattle.netlist_import.specs.Shapes.{number_of_used}
use Rattle.netlist_import.proofs.kinds.targets_by.Given as goal

abbrev pub invariant-loop-module : goal.invariant-loop-module
invariant-loop-module l = record {
  targets :
      map (map (number_of_used l.modules)) (all_uses_after l.modules l.initial.kinds
      l.modules)
      ≡ l.all ++ map (map (number_of_used l.modules))
      (all_uses_after l.modules l.kinds (drop l.module-index l.modules));
  kinds :
      kinds_after l.modules l.initial.kinds (all_cells l.modules)
      ≡ kinds_after l.modules l.kinds (all_cells (drop l.module-index l.modules));
}
