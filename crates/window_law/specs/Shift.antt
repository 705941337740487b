-- Ticks that a break names, moved.
use Rattle.std.specs.Prelude.{ℕ, ◌+◌}
use Rattle.narrowing.specs.declared.named.Named.{Named}
use Rattle.narrowing.specs.declared.named.Named.TheVariants.{Edge, High, Pulse, Mark, Step}

-- the same ticks, so many later
abbrev pub later_by : ℕ → Named → Named
later_by n (Edge rise change) = Edge (n + rise) (n + change)
later_by n (High rise fall change) = High (n + rise) (n + fall) (n + change)
later_by n (Pulse start end) = Pulse (n + start) (n + end)
later_by n (Mark tick marked pin) = Mark (n + tick) marked pin
later_by n (Step tick) = Step (n + tick)
