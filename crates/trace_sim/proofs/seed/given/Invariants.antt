use Rattle.std.proofs.Common.{◌≡◌, ◌<◌, ℕ, Some, length, slice_get}
use Rattle.flat_circuit.specs.Name.{net_at}
use Rattle.trace_sim.specs.Input.{given_row}
use Rattle.trace_sim.proofs.seed.given.Given as goal

abbrev pub invariant-loop-place : goal.invariant-loop-place
invariant-loop-place l = record {
  each : length l.rows ≡ length l.c.nets;
  are : (p : ℕ) → p < l.place → slice_get l.rows (net_at l.c.order p) ≡ Some (given_row l.c l.case l.ticks l.shifts l.free p);
}
