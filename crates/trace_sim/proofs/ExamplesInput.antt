-- The bits that are given of nets by what was drawn of them, worked out on paper.
use Rattle.std.proofs.Common.{◌≡◌, ℕ, true, false, cond, ◌==◌, List, [], ◌∷◌, map, codes, slice_index_or, Some, None, refl}
use Prim.Native.String.{String}
use Rattle.std.specs.List.{range_with_len}
use Rattle.scald_base.specs.Clock.{back}
use Rattle.scald_base.specs.Signal.{Signal}
use Rattle.scald_base.specs.Time.{Header}
use Rattle.scald_base.specs.declared.assertion.AssertSpec.{AssertSpec}
use Rattle.scald_base.specs.declared.assertion.ClockSpec.{ClockSpec}
use Rattle.scald_base.specs.declared.assertion.Span.{Span}
use Rattle.scald_base.specs.declared.assertion.AssertSpec.TheVariants.{Clock, Precision, Stable}
use Rattle.flat_circuit.proofs.RunTables.{driven_by, input}
use Rattle.trace_sim.specs.Input.{asserted, given_in}

-- a period of eight ticks
abbrev eight : Header
eight = record {
  units = 8;
  ticks = 1;
  wire = record { min = 0; max = 0 };
  pskew = (0, 0);
  cskew = (0, 0);
}

abbrev interval : ℕ → ℕ → Span
interval lo hi = record { lo = lo; hi = hi }

abbrev clock : List Span → ℕ × ℕ → ClockSpec
clock spans skew = record { spans = spans; low = false; skew = Some skew }

-- the bits of a text of `0` and `1`
abbrev bits : String → Signal
bits text t = slice_index_or (codes text) t 48 == 49

-- the first bits of a signal, as such a text
abbrev shown : Signal → ℕ → List ℕ
shown x n = map (λ (t : ℕ). cond (x t) 49 48) (range_with_len 0 n)

-- the first bits of a net with this assertion, if this is how much later it comes than its earliest, and these are its
-- free bits
abbrev given : AssertSpec → ℕ → String → ℕ → List ℕ
given spec by free n = shown (asserted eight spec by (bits free)) n

-- ---- stable nets

-- `.S` steps never
never : given (Stable []) 0 "0111" 4 ≡ codes "0000"
unfolding back
never = refl

-- `.S0-3`: the steps into ticks 1 and 2 lie in quiet slots, in each period
in_quiet_slots : given (Stable (interval 0 3 ∷ [])) 0 "10010110010" 11 ≡ codes "11110110000"
unfolding back
in_quiet_slots = refl

-- ---- clocks that come as a whole

-- `.P2-4`
in_time : given (Precision (clock (interval 2 4 ∷ []) (0, 0))) 0 "1111111111" 10 ≡ codes "0011000000"
unfolding back
in_time = refl

-- `.P2-4(1,2)`, from one tick early to two late
earliest : given (Precision (clock (interval 2 4 ∷ []) (1, 2))) 0 "1111111111" 10 ≡ codes "0110000001"
unfolding back
earliest = refl

latest : given (Precision (clock (interval 2 4 ∷ []) (1, 2))) 3 "1111111111" 10 ≡ codes "0000110000"
unfolding back
latest = refl

-- ---- clocks whose edges move each by itself

-- `.C2-5(1,1)`: the rise comes in slots 1 to 3 and the fall in slots 4 to 6, each at the latest in the last
late_edges : given (Clock (clock (interval 2 5 ∷ []) (1, 1))) 0 "10001110" 8 ≡ codes "00011100"
unfolding back
late_edges = refl

early_edges : given (Clock (clock (interval 2 5 ∷ []) (1, 1))) 0 "11100000" 8 ≡ codes "01110000"
unfolding back
early_edges = refl

-- what has come in its region stays
once : given (Clock (clock (interval 2 5 ∷ []) (1, 1))) 0 "01001011" 8 ≡ codes "01111000"
unfolding back
once = refl

-- `.C1-4(1,1)`: slot 0 is of the rise's region, which slot 2 ends, so the bit at tick 0 is free
begins_inside : given (Clock (clock (interval 1 4 ∷ []) (1, 1))) 0 "10000000" 4 ≡ codes "1110"
unfolding back
begins_inside = refl

begins_before : given (Clock (clock (interval 1 4 ∷ []) (1, 1))) 0 "00000000" 4 ≡ codes "0010"
unfolding back
begins_before = refl

-- `.C0-4(1,0)`: slot 0 ends the rise's region, so it is 1 there
begins_at_last : given (Clock (clock (interval 0 4 ∷ []) (1, 0))) 0 "00000000" 4 ≡ codes "1110"
unfolding back
begins_at_last = refl

-- ---- nets of a case, and driven ones

of_case : shown (given_in eight (Some true) (Some input) 0 (bits "0101")) 4 ≡ codes "1111"
of_case = refl

driven : shown (given_in eight None (Some (driven_by 0)) 0 (bits "0101")) 4 ≡ codes "0101"
driven = refl

undriven : shown (given_in eight None (Some input) 0 (bits "0101")) 4 ≡ codes "0000"
unfolding back
undriven = refl
