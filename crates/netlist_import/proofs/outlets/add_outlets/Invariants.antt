use Rattle.std.proofs.Common.{◌≡◌, ◌++◌, drop}
use Rattle.netlist_import.specs.Body.{port_outlets}
use Rattle.netlist_import.specs.Nets.{numbered_from}
use Rattle.netlist_import.proofs.outlets.add_outlets.Given as goal

abbrev pub invariant-loop-index : goal.invariant-loop-index
invariant-loop-index l =
    l.initial.outlets ++ port_outlets l.nets l.net (numbered_from 0 l.bits)
    ≡ l.outlets ++ port_outlets l.nets l.net (numbered_from l.index (drop l.index l.bits))
