use Rattle.std.proofs.Common.{◌≡◌, ℕ, drop}
use Rattle.trace_sim.specs.Choice.{choices_of}
use Rattle.trace_sim.specs.Making.{pass, AreRows}
use Rattle.trace_sim.proofs.making.pass.Given as goal

abbrev pub invariant-loop-k : goal.invariant-loop-k
invariant-loop-k l = record {
  made : (ticks : ℕ) → pass l.c ticks (choices_of l.choice) l.t (drop l.k-index l.order) l.bits ≡ pass l.c ticks (choices_of l.choice) l.t l.order l.fn.bits;
  rows : AreRows l.c (choices_of l.choice) l.bits l.rows l.t;
}
