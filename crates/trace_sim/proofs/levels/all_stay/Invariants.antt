use Rattle.std.proofs.Common.{◌≡◌, ◌≤◌, ◌-◌, drop, length}
use Rattle.std.specs.List.{list_all}
use Rattle.flat_circuit.specs.Run.{pin_signals}
use Rattle.trace_sim.specs.Making.{stays_at}
use Rattle.trace_sim.specs.Making.{seen}
use Rattle.trace_sim.proofs.levels.all_stay.Given as goal

abbrev pub invariant-pins : goal.invariant-pins
invariant-pins l = record {
  short : l.place ≤ length l.pins;
  so_far : list_all (stays_at l.t) (pin_signals (seen l.bits) (drop l.place l.pins) (drop l.place l.wires)) ≡ list_all (stays_at l.t) (pin_signals (seen l.bits) l.pins l.wires);
}

abbrev pub decreases-pins : goal.decreases-pins
decreases-pins l = length l.pins - l.place
