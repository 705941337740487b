use Rattle.std.proofs.Common.{◌≡◌, length}
use Rattle.trace_sim.proofs.seed.empty_rows.Given as goal

abbrev pub invariant-loop : goal.invariant-loop
invariant-loop l = length l.rows ≡ l.counter
