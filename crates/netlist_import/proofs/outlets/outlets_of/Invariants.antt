use Rattle.std.proofs.Common.{◌≡◌, ◌++◌, drop}
use Rattle.netlist_import.specs.Body.{all_outlets}
use Rattle.netlist_import.specs.Nets.{numbered_from}
use Rattle.netlist_import.proofs.outlets.outlets_of.Given as goal

abbrev pub invariant-loop-net : goal.invariant-loop-net
invariant-loop-net l =
    all_outlets l.nets (numbered_from 0 l.ports)
    ≡ l.outlets ++ all_outlets l.nets (numbered_from l.net (drop l.net l.ports))
