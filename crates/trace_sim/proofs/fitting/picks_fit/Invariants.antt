use Rattle.std.proofs.Common.{ℕ, ◌<◌}
use Rattle.trace_sim.specs.Choice.{PickFitsAt}
use Rattle.trace_sim.proofs.fitting.picks_fit.Given as goal

abbrev pub invariant-loop-k : goal.invariant-loop-k
invariant-loop-k l = (i : ℕ) → i < l.k → PickFitsAt l.c l.choice i
