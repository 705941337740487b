use Rattle.trace_sim.specs.Choice.{choices_of}
use Rattle.trace_sim.specs.Failure.{AreFine}
use Rattle.trace_sim.proofs.failure.first_at.Given as goal

abbrev pub invariant-loop-k : goal.invariant-loop-k
invariant-loop-k l = AreFine l.c (choices_of l.choice) l.bits l.t l.k
