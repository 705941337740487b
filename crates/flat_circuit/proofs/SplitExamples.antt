-- Gates with two delays, tick by tick: the gate's own bits above, and the output below. Then which
-- bounds stand beside two delays, at which kinds they count, and what passes on at once.
use Rattle.std.proofs.Common.{◌≡◌, ℕ, Bool, false, List, [], ◌∷◌, map, get_or, refl, sym, ap, arith, true≢false, Some, None}
use Prim.Native.String.{String}
use Rattle.scald_base.specs.Signal.{Signal}
use Rattle.scald_base.specs.Time.{Bounds}
use Rattle.element_kinds.specs.declared.kind.Kind.TheVariants.{Buf, And, Mux8, Reg}
use Rattle.element_kinds.specs.Kinds.{kinds}
use Rattle.flat_circuit.specs.declared.instance.Instance.{Instance}
use Rattle.flat_circuit.specs.declared.split.Split.{Split}
use Rattle.flat_circuit.specs.Instances.{least_delay_at}
use Rattle.flat_circuit.specs.Split.{SplitFits, two_delays, ticks, split_bit}
use Rattle.flat_circuit.proofs.RunTables.{bits, bounds, on, two, split_element}

-- the signal of a text of 0s and 1s, with tick 0 first
abbrev drawn : String → Signal
drawn text t = get_or (bits text) t false

-- the output at the ticks from one to another
abbrev output : String → ℕ → ℕ → ℕ → ℕ → List Bool
output z rise fall first last = map (split_bit (drawn z) rise fall) (ticks first last)

-- With a rise delay of 3 and a fall delay of 1, a pulse of four ticks loses two of them.
shrinks : output "00111100000" 3 1 3 10 ≡ bits "00110000"
shrinks = refl

-- One of two ticks is swallowed, since at no tick were all of the last three from 3 to 1 before 1.
swallowed : output "00110000000" 3 1 3 10 ≡ bits "00000000"
swallowed = refl

-- One of three ticks is the shortest that passes: both ends of the range count.
just_passes : output "00111000000" 3 1 3 10 ≡ bits "00100000"
just_passes = refl

-- With the delays exchanged a pulse grows, and a gap of two ticks is swallowed.
grows : output "00010000000" 1 3 3 10 ≡ bits "01110000"
grows = refl

gap_swallowed : output "11001111111" 1 3 3 10 ≡ bits "11111111"
gap_swallowed = refl

-- A gap of three ticks is the shortest that is seen.
gap_seen : output "11000111111" 1 3 3 10 ≡ bits "11011111"
gap_seen = refl

-- Two equal delays are one.
equal : output "01101001110" 2 2 2 10 ≡ bits "011010011"
equal = refl

-- Without any delay the output is the gate's own bit.
at_once : output "01101001110" 0 0 0 10 ≡ bits "01101001110"
at_once = refl

-- ---- the bounds beside two delays

both_from_rise_to_fall : SplitFits And (bounds 1 8) (Some (two 1 5 3 8))
both_from_rise_to_fall = (refl, refl)

both_from_fall_to_rise : SplitFits Mux8 (bounds 2 9) (Some (two 4 9 2 3))
both_from_fall_to_rise = (refl, refl)

rise_alone : ¬ SplitFits And (bounds 1 5) (Some (two 1 5 3 8))
rise_alone h =
    let clash : 5 ≡ 8 = ap (λ (d : Bounds). d.max) h.1 in
    omega (arith, clash)

fall_alone : ¬ SplitFits And (bounds 3 8) (Some (two 1 5 3 8))
fall_alone h =
    let clash : 3 ≡ 1 = ap (λ (d : Bounds). d.min) h.1 in
    omega (arith, clash)

-- a register has none, whatever the bounds
register_has_none : ¬ SplitFits Reg (bounds 1 8) (Some (two 1 5 3 8))
register_has_none h = true≢false (sym h.0)

register_has_one : SplitFits Reg (bounds 1 8) None
register_has_one = tt

-- ---- which two delays count, in the order of the kinds

counting : map (λ kind. two_delays kind (Some (two 1 5 3 8))) kinds
    ≡ Some (two 1 5 3 8) ∷ Some (two 1 5 3 8) ∷ Some (two 1 5 3 8) ∷ Some (two 1 5 3 8)
    ∷ Some (two 1 5 3 8) ∷ Some (two 1 5 3 8) ∷ Some (two 1 5 3 8)
    ∷ None ∷ None ∷ None ∷ None ∷ None ∷ None ∷ None ∷ None ∷ []
counting = refl

-- ---- what passes on at once: where either delay may be 0

abbrev buffer_of : Split → List Instance
buffer_of s = split_element Buf s (on 0 ∷ []) 0 ∷ []

by_rise : least_delay_at (buffer_of (two 0 5 3 3)) 0 ≡ 0
by_rise = refl

by_fall : least_delay_at (buffer_of (two 3 3 0 5)) 0 ≡ 0
by_fall = refl

by_none : least_delay_at (buffer_of (two 2 5 1 3)) 0 ≡ 1
by_none = refl
