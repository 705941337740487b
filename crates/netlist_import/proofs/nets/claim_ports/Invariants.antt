use Rattle.std.proofs.Common.{◌≡◌, drop}
use Rattle.netlist_import.specs.Nets.{port_vectors, with_vectors}
use Rattle.netlist_import.proofs.nets.claim_ports.Given as goal

abbrev pub invariant-loop-net : goal.invariant-loop-net
invariant-loop-net l =
    with_vectors (port_vectors l.direction 0 l.ports) l.initial.places
    ≡ with_vectors (port_vectors l.direction l.net (drop l.net l.ports)) l.places
