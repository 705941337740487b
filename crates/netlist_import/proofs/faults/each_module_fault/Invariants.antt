use Rattle.std.proofs.Common.{◌≡◌, map, drop}
use Rattle.netlist_import.specs.Fault.{each, module_fault}
use Rattle.netlist_import.specs.Placed.{member_of}
use Rattle.netlist_import.proofs.faults.each_module_fault.Given as goal

abbrev pub invariant-loop-module : goal.invariant-loop-module
invariant-loop-module l =
    each (module_fault l.types) (map member_of l.modules)
    ≡ each (module_fault l.types) (map member_of (drop l.module-index l.modules))
