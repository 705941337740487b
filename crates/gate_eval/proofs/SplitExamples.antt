-- Gates with two delays, slot by slot, worked out on paper: a pulse in a period of eight, which the
-- image of the pins has at slots 2 to 5.
use Rattle.std.proofs.Common.{◌≡◌, ℕ, List, [], ◌∷◌, refl}
use Rattle.scald_base.specs.Clock.{back}
use Rattle.wave_core.specs.Slots.{earlier}
use Rattle.step_values.specs.declared.value.Value.{Value}
use Rattle.step_values.specs.declared.value.Value.TheVariants.{Zero, One, S, C, R, F, U}
use Rattle.skew_algebra.specs.Wave.{skewed}
use Rattle.flat_circuit.specs.declared.split.Split.{Split}
use Rattle.flat_circuit.proofs.RunTables.{bounds}
use Rattle.gate_eval.specs.Split.{late_by_two}

-- the bounds of the rise delay, and then those of the fall delay
abbrev delays : ℕ → ℕ → ℕ → ℕ → Split
delays r R' f F' = record { rise = bounds r R'; fall = bounds f F' }

abbrev pulse : List Value
pulse = Zero ∷ Zero ∷ R ∷ One ∷ One ∷ F ∷ Zero ∷ Zero ∷ []

-- one delay twice, without any choice: all is one slot later
one_delay : late_by_two (skewed pulse 0) (delays 1 1 1 1) ≡ skewed (Zero ∷ Zero ∷ Zero ∷ R ∷ One ∷ One ∷ F ∷ Zero ∷ []) 0
unfolding earlier back
one_delay = refl

-- the rise two slots later, the fall one
shrinks : late_by_two (skewed pulse 0) (delays 2 2 1 1) ≡ skewed (Zero ∷ Zero ∷ Zero ∷ Zero ∷ R ∷ One ∷ F ∷ Zero ∷ []) 0
unfolding earlier back
shrinks = refl

-- the windows of the rise and of the fall meet
meets : late_by_two (skewed pulse 0) (delays 1 2 0 0) ≡ skewed (Zero ∷ Zero ∷ Zero ∷ R ∷ R ∷ F ∷ Zero ∷ Zero ∷ []) 0
unfolding earlier back
meets = refl

grows : late_by_two (skewed pulse 0) (delays 0 0 1 2) ≡ skewed (Zero ∷ Zero ∷ R ∷ One ∷ One ∷ One ∷ F ∷ F ∷ []) 0
unfolding earlier back
grows = refl

-- a rise delay that is longer than the pulse by more than the fall delay
swallowed : late_by_two (skewed pulse 0) (delays 4 4 0 0) ≡ skewed (Zero ∷ Zero ∷ Zero ∷ Zero ∷ Zero ∷ Zero ∷ Zero ∷ Zero ∷ []) 0
unfolding earlier back
swallowed = refl

-- the same delays a period later
past_the_period : late_by_two (skewed pulse 0) (delays 10 10 9 9) ≡ skewed (Zero ∷ Zero ∷ Zero ∷ Zero ∷ R ∷ One ∷ F ∷ Zero ∷ []) 0
unfolding earlier back
past_the_period = refl

-- either delay may be the longer one
either_way : late_by_two (skewed pulse 0) (delays 0 2 0 2) ≡ skewed (Zero ∷ Zero ∷ R ∷ R ∷ R ∷ F ∷ F ∷ F ∷ []) 0
unfolding earlier back
either_way = refl

-- the least rise delay is the greatest fall delay, and so is never the shorter one; and the reverse
rise_at_least : late_by_two (skewed pulse 0) (delays 2 3 1 2) ≡ skewed (Zero ∷ Zero ∷ Zero ∷ Zero ∷ R ∷ R ∷ F ∷ F ∷ []) 0
unfolding earlier back
rise_at_least = refl

fall_at_least : late_by_two (skewed pulse 0) (delays 1 2 2 3) ≡ skewed (F ∷ Zero ∷ Zero ∷ R ∷ R ∷ One ∷ One ∷ F ∷ []) 0
unfolding earlier back
fall_at_least = refl

-- a pulse of one slot, and a gap: if it may be 1 in one slot alone, it rises there and does not fall there, since the
-- slot before may not be 1; and the reverse
short_pulse : late_by_two (skewed (Zero ∷ Zero ∷ R ∷ F ∷ Zero ∷ Zero ∷ Zero ∷ Zero ∷ []) 0) (delays 2 2 1 1)
    ≡ skewed (Zero ∷ Zero ∷ Zero ∷ Zero ∷ R ∷ Zero ∷ Zero ∷ Zero ∷ []) 0
unfolding earlier back
short_pulse = refl

short_gap : late_by_two (skewed (One ∷ One ∷ F ∷ R ∷ One ∷ One ∷ One ∷ One ∷ []) 0) (delays 1 1 2 2)
    ≡ skewed (One ∷ One ∷ One ∷ One ∷ F ∷ One ∷ One ∷ One ∷ []) 0
unfolding earlier back
short_gap = refl

-- each slot of an image that never changes counts by itself: it is 1 in two slots at most, one after the other
steady : late_by_two (skewed (Zero ∷ Zero ∷ S ∷ S ∷ Zero ∷ Zero ∷ Zero ∷ Zero ∷ []) 0) (delays 2 2 0 0)
    ≡ skewed (Zero ∷ Zero ∷ Zero ∷ Zero ∷ Zero ∷ Zero ∷ Zero ∷ Zero ∷ []) 0
unfolding earlier back
steady = refl

-- the skew stays beside the slots
keeps_its_skew : late_by_two (skewed pulse 3) (delays 2 2 1 1) ≡ skewed (Zero ∷ Zero ∷ Zero ∷ Zero ∷ R ∷ One ∷ F ∷ Zero ∷ []) 3
unfolding earlier back
keeps_its_skew = refl

-- what is unknown stays unknown if all four steps are there, and else not
unknown : late_by_two (skewed (U ∷ U ∷ []) 0) (delays 1 2 0 0) ≡ skewed (U ∷ U ∷ []) 0
unfolding earlier back
unknown = refl

-- an unknown slot that lies between those of the rise and those of the fall counts too
unknown_between : late_by_two (skewed (C ∷ C ∷ C ∷ U ∷ C ∷ C ∷ C ∷ C ∷ []) 0) (delays 1 1 4 4)
    ≡ skewed (C ∷ C ∷ C ∷ C ∷ U ∷ U ∷ U ∷ U ∷ []) 0
unfolding earlier back
unknown_between = refl

known_again : late_by_two (skewed (Zero ∷ Zero ∷ U ∷ One ∷ One ∷ One ∷ One ∷ One ∷ []) 0) (delays 1 1 0 0)
    ≡ skewed (Zero ∷ Zero ∷ Zero ∷ R ∷ One ∷ One ∷ One ∷ One ∷ []) 0
unfolding earlier back
known_again = refl
