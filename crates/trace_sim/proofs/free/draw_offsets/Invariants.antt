use Rattle.std.proofs.Common.{◌≡◌, ℕ, take, slice_get}
use Rattle.trace_sim.specs.Draw.{draw_each}
use Rattle.trace_sim.specs.Drawn.{draw_offset}
use Rattle.trace_sim.proofs.free.draw_offsets.Given as goal

abbrev pub invariant-loop-place : goal.invariant-loop-place
invariant-loop-place g l =
    (l.shifts, g.R.Rng.stream l.rng)
    ≡ draw_each (λ (n : ℕ). draw_offset l.c.header (slice_get l.c.nets n)) (take l.place l.c.order) (g.R.Rng.stream l.fn.rng)
