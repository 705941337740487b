-- What is drawn by the words of a generator, one after another.
use Rattle.std.specs.Prelude.{ℕ, ◌+◌, ◌-◌, ◌%◌, ◌==◌, Bool, List, [], ◌∷◌}
use Rattle.std.specs.List.{range_with_len}
use Rattle.rand_core.specs.Stream.{Stream, next_u64}
use Rattle.rand_core.specs.Steps.{stream_of, steps_u64_low}
use Rattle.rand_core.specs.Pcg32Seed.{pcg32_seed}
use Rattle.rand_pcg.specs.Pcg.{pcg64, pcg64_of_seed}

-- all that the generator gives that is seeded by a number
abbrev pub seeded : ℕ → Stream
seeded seed = stream_of (steps_u64_low pcg64) (pcg64_of_seed (pcg32_seed 32 seed))

-- what is drawn by the next words, and what the generator gives after them
abbrev pub Draw : Type 0 → Type 0
Draw A = Stream → A × Stream

-- a number from the least to the greatest takes a word, also if they are one
abbrev pub draw_from : ℕ → ℕ → Draw ℕ
draw_from least greatest s = (least + (next_u64 s).0 % (greatest - least + 1), (next_u64 s).1)

-- a bit is the lowest of a word
abbrev pub draw_bit : Draw Bool
draw_bit s = ((next_u64 s).0 % 2 == 1, (next_u64 s).1)

-- one after another
abbrev pub draw_each : {X Y : Type 0} → (X → Draw Y) → List X → Draw (List Y)
draw_each draw [] s = ([], s)
draw_each draw (x ∷ xs) s =
    let first = draw x s in
    let rest = draw_each draw xs first.1 in
    (first.0 ∷ rest.0, rest.1)

-- so many bits
abbrev pub draw_bits : ℕ → Draw (List Bool)
draw_bits count s = draw_each (λ (t : ℕ). draw_bit) (range_with_len 0 count) s
