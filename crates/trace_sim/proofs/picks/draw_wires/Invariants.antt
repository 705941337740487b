use Rattle.std.proofs.Common.{◌≡◌, take}
use Rattle.flat_circuit.specs.declared.instance.Pin.{Pin}
use Rattle.flat_circuit.specs.Run.{WiresFit}
use Rattle.trace_sim.specs.Draw.{draw_each}
use Rattle.trace_sim.specs.Drawn.{draw_wire}
use Rattle.trace_sim.proofs.picks.draw_wires.Given as goal

abbrev pub invariant-loop-pin : goal.invariant-loop-pin
invariant-loop-pin g l = record {
  is : (l.wires, g.R.Rng.stream l.rng) ≡ draw_each (λ (p : Pin). draw_wire l.c.nets p.target) (take l.pin-index l.pins) (g.R.Rng.stream l.fn.rng);
  within : WiresFit l.c.nets (take l.pin-index l.pins) l.wires;
}
