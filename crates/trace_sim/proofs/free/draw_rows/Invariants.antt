use Rattle.std.proofs.Common.{◌≡◌, ℕ, take}
use Rattle.trace_sim.specs.Draw.{draw_bits, draw_each}
use Rattle.trace_sim.proofs.free.draw_rows.Given as goal

abbrev pub invariant-loop : goal.invariant-loop
invariant-loop g l =
    (l.rows, g.R.Rng.stream l.rng) ≡ draw_each (λ (n : ℕ). draw_bits l.ticks) (take l.counter l.c.order) (g.R.Rng.stream l.fn.rng)
