-- The printed tick: from it on, settled waves permit what the pins on their nets show.
use Rattle.std.specs.Prelude.{ℕ, ◌+◌, ◌*◌}

-- One reach for each round of the base and of the case, and one more, since pins are later than
-- their nets.
abbrev pub tick : ℕ → ℕ → ℕ → ℕ
tick reach base rounds = (base + rounds + 1) * reach
