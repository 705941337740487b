use Rattle.std.proofs.Common.{◌≡◌, length}
use Rattle.trace_sim.specs.Choice.{choices_of}
use Rattle.trace_sim.specs.Making.{made, begun, AreRows}
use Rattle.trace_sim.proofs.making.simulate.Given as goal

abbrev pub invariant-loop-t : goal.invariant-loop-t
invariant-loop-t l = record {
  made : l.bits.items ≡ made l.c l.ticks (choices_of l.choice) l.order.items l.t (begun l.c l.choice);
  long : length l.rows.items ≡ length l.c.instances;
  rows : AreRows l.c (choices_of l.choice) l.bits.items l.rows.items l.t;
}
