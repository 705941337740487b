-- The ticks that a break names: the least and the greatest of them.
use Rattle.std.specs.Prelude.{ℕ, max, min}
use Rattle.narrowing.specs.declared.named.Named.{Named}
use Rattle.narrowing.specs.declared.named.Named.TheVariants.{Edge, High, Pulse, Mark, Step}

abbrev pub last_of : Named → ℕ
last_of (Edge rise change) = max rise change
last_of (High rise fall change) = max fall change
last_of (Pulse start end) = end
last_of (Mark tick marked pin) = tick
last_of (Step tick) = tick

abbrev pub first_of : Named → ℕ
first_of (Edge rise change) = min rise change
first_of (High rise fall change) = min rise change
first_of (Pulse start end) = start
first_of (Mark tick marked pin) = tick
first_of (Step tick) = tick
