use Rattle.std.proofs.Common.{◌≡◌, drop}
use Rattle.netlist_import.specs.Kinds.{with_ports}
use Rattle.netlist_import.proofs.kinds.add_ports.Given as goal

abbrev pub invariant-loop-connection : goal.invariant-loop-connection
invariant-loop-connection l =
    with_ports l.initial.ports l.connections ≡ with_ports l.ports
    (drop l.connection-index l.connections)
