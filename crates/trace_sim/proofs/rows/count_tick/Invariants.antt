use Rattle.std.proofs.Common.{◌≡◌, length}
use Rattle.trace_sim.specs.Choice.{choices_of}
use Rattle.trace_sim.proofs.Steps.{AreRowsTo}
use Rattle.trace_sim.proofs.rows.count_tick.Given as goal

abbrev pub invariant-loop-k : goal.invariant-loop-k
invariant-loop-k l = record {
  long : length l.rows ≡ length l.c.instances;
  counted : AreRowsTo l.c (choices_of l.choice) l.bits l.rows l.t l.k;
}
