use Rattle.std.proofs.Common.{◌≡◌, ◌||◌, ◌++◌, [], drop}
use Rattle.drawing_tree.specs.Canonical.{bracketed_if_some, connection_text}
use Rattle.netlist_import.specs.Body.{connected, of_way}
use Rattle.netlist_import.proofs.Bracketed.{is_any, rest_text}
use Rattle.netlist_import.proofs.body.add_ports.Given as goal

abbrev pub invariant-loop-port : goal.invariant-loop-port
invariant-loop-port l = record {
  some :
      is_any (connected l.cell (of_way l.direction l.ports) l.initial.nets).connections
      ≡ (l.is_some || is_any (connected l.cell (of_way l.direction (drop l.port-index l.ports))
      l.nets).connections);
  text :
      l.initial.out ++ bracketed_if_some l.before [] connection_text
      (connected l.cell (of_way l.direction l.ports) l.initial.nets).connections
      ≡ l.out ++ rest_text l.is_some l.before connection_text
      (connected l.cell (of_way l.direction (drop l.port-index l.ports)) l.nets).connections;
  nets :
      (connected l.cell (of_way l.direction l.ports) l.initial.nets).nets
      ≡ (connected l.cell (of_way l.direction (drop l.port-index l.ports)) l.nets).nets;
}
