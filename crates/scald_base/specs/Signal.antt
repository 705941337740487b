-- Signals: a bit on each tick.
use Rattle.std.specs.Prelude.{ℕ, Bool, not, if◌then◌else◌}

abbrev pub Signal : Type 0
Signal = ℕ → Bool

-- complemented, if a pin or an output is marked so
abbrev pub turned : Bool → Bool → Bool
turned inverted bit = if inverted then not bit else bit
