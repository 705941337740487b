use Rattle.std.proofs.Common.{◌≡◌, ◌≤◌, ◌++◌, ◌-◌, drop, length}
use Rattle.element_kinds.specs.Equation.{bits_at}
use Rattle.flat_circuit.specs.Run.{pin_signals}
use Rattle.trace_sim.specs.Making.{seen}
use Rattle.trace_sim.proofs.levels.pin_bits.Given as goal

abbrev pub invariant-pins : goal.invariant-pins
invariant-pins l = record {
  short : l.place ≤ length l.pins;
  so_far : l.shown.items ++ bits_at (pin_signals (seen l.bits) (drop l.place l.pins) (drop l.place l.wires)) l.t ≡ bits_at (pin_signals (seen l.bits) l.pins l.wires) l.t;
}

abbrev pub decreases-pins : goal.decreases-pins
decreases-pins l = length l.pins - l.place
