use Rattle.std.proofs.Common.{◌≡◌, length}
use Rattle.trace_sim.specs.Choice.{choices_of}
use Rattle.trace_sim.specs.Making.{AreRows}
use Rattle.trace_sim.proofs.Failing.{AreFineUntil}
use Rattle.trace_sim.proofs.failure.first_failure.Given as goal

abbrev pub invariant-loop-t : goal.invariant-loop-t
invariant-loop-t l = record {
  long : length l.rows.items ≡ length l.c.instances;
  rows : AreRows l.c (choices_of l.choice) l.bits l.rows.items l.t;
  fine : AreFineUntil l.c (choices_of l.choice) l.bits l.t;
}
