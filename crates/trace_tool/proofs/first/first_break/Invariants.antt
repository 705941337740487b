use Rattle.std.proofs.Common.{length}
use Rattle.trace_sim.specs.Choice.{choices_of}
use Rattle.trace_sim.specs.Simulated.{run_of}
use Rattle.trace_tool.specs.Pass.{AreAmong, HasFirstAmong}
use Rattle.trace_tool.proofs.first.first_break.Given as goal

abbrev pub invariant-loop-k : goal.invariant-loop-k
invariant-loop-k l =
    HasFirstAmong l.c (run_of l.ticks (choices_of l.choice) l.bits) l.from (AreAmong l.k 0) l.best

abbrev pub invariant-loop-place : goal.invariant-loop-place
invariant-loop-place l =
    HasFirstAmong l.c (run_of l.ticks (choices_of l.choice) l.bits) l.from (AreAmong (length l.c.instances) l.place) l.best
