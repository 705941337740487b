use Rattle.std.proofs.Common.{ℕ, ◌<◌}
use Rattle.trace_sim.proofs.PinByPin.{WireFitsAt}
use Rattle.trace_sim.proofs.fitting.wires_fit.Given as goal

abbrev pub invariant-loop-place : goal.invariant-loop-place
invariant-loop-place l = (p : ℕ) → p < l.place → WireFitsAt l.c.nets l.pins l.wires p
