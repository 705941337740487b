use Rattle.std.proofs.Common.{◌≡◌, ℕ}
use Rattle.std.specs.List.{range_with_len}
use Rattle.trace_sim.specs.Draw.{draw_bit, draw_each}
use Rattle.trace_sim.proofs.free.draw_bits.Given as goal

abbrev pub invariant-loop : goal.invariant-loop
invariant-loop g l = (l.bits, g.R.Rng.stream l.rng) ≡ draw_each (λ (t : ℕ). draw_bit) (range_with_len 0 l.counter) (g.R.Rng.stream l.fn.rng)
