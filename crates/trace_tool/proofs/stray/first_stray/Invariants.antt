use Rattle.std.proofs.Common.{ℕ, ◌<◌, List}
use Rattle.flat_circuit.specs.Run.{Choice as Chosen}
use Rattle.trace_sim.specs.Simulated.{run_of}
use Rattle.trace_tool.specs.Interface.{KeepsAt}
use Rattle.trace_tool.proofs.stray.first_stray.Given as goal

abbrev pub invariant-loop-place : goal.invariant-loop-place
invariant-loop-place l = (choices : List Chosen) (place : ℕ) → place < l.place → KeepsAt l.c (run_of l.ticks choices l.bits) place
