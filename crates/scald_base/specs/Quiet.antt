-- Where a stable assertion allows no step.
use Rattle.std.specs.Prelude.{ℕ, ◌+◌, Bool, true, ◌&&◌, ◌||◌, nat_lt, List, [], ◌∷◌}
use Rattle.std.specs.List.{list_any}
use Rattle.scald_base.specs.declared.assertion.Span.{Span}
use Rattle.scald_base.specs.Time.{Header, period}
use Rattle.scald_base.specs.Span.{begin_tick, end_tick}

-- Slot p is the step from tick p - 1 to tick p. It is quiet if both are inside the interval: the
-- step into the interval is not.
abbrev pub quiet_inside : Header → ℕ → Span → Bool
quiet_inside h slot s =
    let between = λ (n : ℕ). nat_lt (begin_tick h s) n && nat_lt n (end_tick h s) in
    between slot || between (slot + period h)

-- Each interval goes by itself, so the slot where two touch is not quiet. Without intervals nothing
-- ever steps.
abbrev pub quiet : List Span → Header → ℕ → Bool
quiet [] h slot = true
quiet (s ∷ ss) h slot = list_any (quiet_inside h slot) (s ∷ ss)
