-- Equations worked out on paper.
use Rattle.std.proofs.Common.{◌≡◌, Bool, true, false, nat_le, [], ◌∷◌, refl, arith}
use Rattle.scald_base.specs.Time.{Bounds}
use Rattle.scald_base.specs.Signal.{Signal}
use Rattle.element_kinds.specs.declared.kind.Kind.TheVariants.{And, Or, Xor, Mux2, Mux4, Mux8, Chg, Reg, Latch, LatchRs}
use Rattle.element_kinds.specs.Equation.{gate_bit, named_before, rises_at, latched, IsForced, IsSetReset, IsInReach, Equation}

-- selects 1 and 0 choose input 2 of four
mux4_chooses : (a b c d : Bool) → gate_bit Mux4 (true ∷ false ∷ a ∷ b ∷ c ∷ d ∷ []) ≡ c
mux4_chooses a b c d = refl

-- selects 0, 1 and 1 choose input 3 of eight
mux8_chooses : (a b c d e f g h : Bool) → gate_bit Mux8 (false ∷ true ∷ true ∷ a ∷ b ∷ c ∷ d ∷ e ∷ f ∷ g ∷ h ∷ []) ≡ d
mux8_chooses a b c d e f g h = refl

mux2_chooses : (a b : Bool) → gate_bit Mux2 (false ∷ a ∷ b ∷ []) ≡ a
mux2_chooses a b = refl

three_ones_are_odd : gate_bit Xor (true ∷ false ∷ true ∷ true ∷ []) ≡ true
three_ones_are_odd = refl

two_ones_are_even : gate_bit Xor (true ∷ false ∷ true ∷ []) ≡ false
two_ones_are_even = refl

and_of_a_zero : gate_bit And (true ∷ false ∷ true ∷ []) ≡ false
and_of_a_zero = refl

or_of_a_one : gate_bit Or (false ∷ false ∷ true ∷ []) ≡ true
or_of_a_one = refl

-- a delay of 5 after wires of 2 and 3: a register names its output 1 tick before, its clock also 8 ticks before
register_names : (bounds : Bounds) → named_before Reg bounds 5 (2 ∷ 3 ∷ []) ≡ 1 ∷ 8 ∷ 7 ∷ 8 ∷ []
register_names bounds = refl

-- the steps of a change function's pins lie as far back as its greatest delay, and each names the tick before
change_names : named_before Chg (record { min = 1; max = 4 }) 0 (2 ∷ 0 ∷ []) ≡ 1 ∷ 7 ∷ 5 ∷ []
change_names = refl

-- a gate names its pins alone, also those that it does not select; a latch its output too
gate_names : (bounds : Bounds) → named_before Mux2 bounds 5 (0 ∷ 2 ∷ 9 ∷ []) ≡ 5 ∷ 7 ∷ 14 ∷ []
gate_names bounds = refl

latch_names : (bounds : Bounds) → named_before LatchRs bounds 5 (0 ∷ 2 ∷ 9 ∷ 0 ∷ []) ≡ 1 ∷ 5 ∷ 7 ∷ 14 ∷ 5 ∷ []
latch_names bounds = refl

-- ---- storage

abbrev low : Signal
low t = false

abbrev high : Signal
high t = true

-- 1 from tick 3 on
abbrev step : Signal
step t = nat_le 3 t

rises_where_it_steps : rises_at step 3 ≡ true
rises_where_it_steps = refl

stays_high : rises_at step 4 ≡ false
stays_high = refl

set_alone : IsSetReset (low ∷ low ∷ high ∷ low ∷ []) 5 false true
set_alone = refl

reset_alone : IsSetReset (low ∷ low ∷ low ∷ high ∷ []) 5 true false
reset_alone = refl

both : (free output : Bool) → IsForced true true free output
both free output = tt

neither : (free : Bool) → IsForced false false free free
neither free = refl

-- the clock is 1 before and at the tick, the input 1 and the output 0: a register keeps the 0, and
-- a latch takes the 1
keeps : (bounds : Bounds) → Equation Reg bounds 2 (high ∷ high ∷ []) low 7
keeps bounds = refl

follows : (bounds : Bounds) → Equation Latch bounds 2 (high ∷ high ∷ []) high 7
follows bounds = refl

follows_at_once : latched (high ∷ high ∷ []) 7 false ≡ true
follows_at_once = refl

-- ---- the reach of a change function with delays from 1 to 4, at tick 9: ticks 5 to 8

abbrev one_to_four : Bounds
one_to_four = record { min = 1; max = 4 }

earliest : IsInReach one_to_four 9 5
earliest = (omega arith, omega arith)

latest : IsInReach one_to_four 9 8
latest = (omega arith, omega arith)

too_early : ¬ IsInReach one_to_four 9 4
too_early h = absurd (omega (arith, h.1))

too_late : ¬ IsInReach one_to_four 9 9
too_late h = absurd (omega (arith, h.0))
