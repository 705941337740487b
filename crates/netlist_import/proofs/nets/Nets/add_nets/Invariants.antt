use Rattle.std.proofs.Common.{◌≡◌, ◌+◌, ◌≤◌, drop, length, map}
use Rattle.netlist_import.specs.Nets.{nets_wanted, with_all}
use Rattle.netlist_import.proofs.nets.Nets.add_nets.Given as goal

abbrev pub invariant-loop-place : goal.invariant-loop-place
invariant-loop-place l = record {
  nets :
      with_all (nets_wanted l.initial.self.wires 0 l.first l.nets) (map (λ n. length n.bits) l.nets)
      l.initial.self
      ≡ with_all (nets_wanted l.initial.self.wires l.hidden (l.first + l.place)
      (drop l.place l.nets))
      (map (λ n. length n.bits) (drop l.place l.nets)) l.self;
  wires : l.self.wires ≡ l.initial.self.wires;
  hidden : l.hidden ≤ l.place;
}
