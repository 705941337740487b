use Rattle.std.proofs.Common.{◌≡◌, drop, length, map}
use Rattle.netlist_import.specs.Nets.{port_wanted, with_all}
use Rattle.netlist_import.proofs.nets.Nets.add_ports.Given as goal

abbrev pub invariant-loop-port : goal.invariant-loop-port
invariant-loop-port l =
    with_all (map port_wanted l.ports) (map (λ p. length p.bits) l.ports) l.initial.self
    ≡ with_all (map port_wanted (drop l.port-index l.ports))
    (map (λ p. length p.bits) (drop l.port-index l.ports)) l.self
