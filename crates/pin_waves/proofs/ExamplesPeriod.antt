-- What is said of the ticks of one period, worked out on paper: which slot lies before another, the
-- ideal clock and its edges, their regions, and quiet slots.
use Rattle.std.proofs.Common.{◌≡◌, ℕ, Bool, true, false, List, [], ◌∷◌, map, codes, Some, None, refl}
use Rattle.scald_base.specs.Time.{Header}
use Rattle.scald_base.specs.Clock.{ideal, back}
use Rattle.scald_base.specs.Quiet.{quiet}
use Rattle.scald_base.specs.Fitting.{skew_of}
use Rattle.scald_base.specs.declared.assertion.Span.{Span}
use Rattle.scald_base.specs.declared.assertion.ClockSpec.{ClockSpec}
use Rattle.pin_waves.proofs.Tests.{shown}
use Rattle.pin_waves.proofs.Kept.{is_edge, is_in_region}

abbrev pub interval : ℕ → ℕ → Span
interval lo hi = record { lo = lo; hi = hi }

-- so many units of so many ticks; clocks come up to one tick early and two late, or `.C` clocks two
-- early and three late
abbrev pub header : ℕ → ℕ → Header
header units ticks =
    record {
      units = units;
      ticks = ticks;
      wire = record { min = 0; max = 0 };
      pskew =
          (1, 2);
      cskew = (2, 3);
    }

-- a clock that says its skew itself
abbrev pub clock : List Span → ℕ × ℕ → ClockSpec
clock spans skew = record { spans = spans; low = false; skew = Some skew }

abbrev pub low_clock : List Span → ℕ × ℕ → ClockSpec
low_clock spans skew = record { spans = spans; low = true; skew = Some skew }

-- a clock whose skew is that of the header
abbrev pub plain_clock : List Span → ClockSpec
plain_clock spans = record { spans = spans; low = false; skew = None }

-- ---- slots before others

slots_before : map (λ (p : ℕ × ℕ). back 8 p.0 p.1)
    ((0, 0) ∷ (7, 0) ∷ (8, 0) ∷ (19, 0) ∷ (0, 1) ∷ (8, 1) ∷ (3, 3) ∷ (3, 4) ∷ (5, 16) ∷ (19, 4)
    ∷ []) ≡ 0 ∷ 7 ∷ 0 ∷ 3 ∷ 7 ∷ 7 ∷ 0 ∷ 7 ∷ 5 ∷ 7 ∷ []
unfolding back
slots_before = refl

-- ---- the ideal clock, over one period of four units of two ticks

abbrev shape : ClockSpec → List ℕ
shape c = shown (ideal c (header 4 2)) 8

of_one : shape (clock (interval 1 2 ∷ []) (0, 0)) ≡ codes "00110000"
of_one = refl

-- a skew moves the clock in runs, and not the ideal one
of_one_with_skew : shape (clock (interval 1 2 ∷ []) (1, 3)) ≡ codes "00110000"
of_one_with_skew = refl

of_low : shape (low_clock (interval 1 2 ∷ []) (0, 0)) ≡ codes "11001111"
of_low = refl

of_two : shape (clock (interval 0 1 ∷ interval 2 3 ∷ []) (0, 0)) ≡ codes "11001100"
of_two = refl

of_touching : shape (clock (interval 0 1 ∷ interval 1 2 ∷ []) (0, 0)) ≡ codes "11110000"
of_touching = refl

to_the_end : shape (clock (interval 2 4 ∷ []) (0, 0)) ≡ codes "00001111"
to_the_end = refl

over_the_end : shape (clock (interval 3 1 ∷ []) (0, 0)) ≡ codes "11000011"
over_the_end = refl

to_zero : shape (clock (interval 3 0 ∷ []) (0, 0)) ≡ codes "00000011"
to_zero = refl

all_round : shape (clock (interval 0 4 ∷ []) (0, 0)) ≡ codes "11111111"
all_round = refl

-- ---- its edges

abbrev edges : Bool → ClockSpec → List ℕ
edges to c = shown (is_edge (header 4 2) c to) 20

-- a rise at slot 2 and a fall at slot 4; slots past the period are none
rises : edges true (clock (interval 1 2 ∷ []) (0, 0)) ≡ codes "00100000000000000000"
unfolding back
rises = refl

falls : edges false (clock (interval 1 2 ∷ []) (0, 0)) ≡ codes "00001000000000000000"
unfolding back
falls = refl

low_falls : edges false (low_clock (interval 1 2 ∷ []) (0, 0)) ≡ codes "00100000000000000000"
unfolding back
low_falls = refl

-- an edge at slot 0, where the period begins
rises_at_zero : edges true (clock (interval 0 1 ∷ []) (0, 0)) ≡ codes "10000000000000000000"
unfolding back
rises_at_zero = refl

falls_at_zero : edges false (clock (interval 2 4 ∷ []) (0, 0)) ≡ codes "10000000000000000000"
unfolding back
falls_at_zero = refl

-- intervals that touch, and a clock that is always 1, have no edge there
touching_rise : edges true (clock (interval 0 1 ∷ interval 1 2 ∷ []) (0, 0))
    ≡ codes "10000000000000000000"
unfolding back
touching_rise = refl

none_all_round : edges true (clock (interval 0 4 ∷ []) (0, 0)) ≡ codes "00000000000000000000"
unfolding back
none_all_round = refl

-- ---- the regions of edges

-- the slots of two periods that are of the region of the edge at a slot
abbrev region : ℕ → ℕ → Bool → ℕ → ClockSpec → List ℕ
region early late to edge c = shown (λ slot. is_in_region (header 4 2) c early late to edge slot) 16

-- the rise at slot 2, a tick early and two late: slots 1 to 4
of_rise : region 1 2 true 2 (clock (interval 1 2 ∷ []) (0, 0)) ≡ codes "0111100001111000"
unfolding back
of_rise = refl

of_fall : region 1 2 false 4 (clock (interval 1 2 ∷ []) (0, 0)) ≡ codes "0001111000011110"
unfolding back
of_fall = refl

without_skew : region 0 0 true 2 (clock (interval 1 2 ∷ []) (0, 0)) ≡ codes "0010000000100000"
unfolding back
without_skew = refl

-- the rise at slot 0, two ticks early and one late: slots 6, 7, 0 and 1
round_the_end : region 2 1 true 0 (clock (interval 0 1 ∷ []) (0, 0)) ≡ codes "1100001111000011"
unfolding back
round_the_end = refl

-- slot 4 falls, and slot 3 has no edge
no_rise_there : region 1 2 true 4 (clock (interval 1 2 ∷ []) (0, 0)) ≡ codes "0000000000000000"
unfolding back
no_rise_there = refl

no_edge_there : region 1 2 true 3 (clock (interval 1 2 ∷ []) (0, 0)) ≡ codes "0000000000000000"
unfolding back
no_edge_there = refl

-- ---- how early and late

own_skew : skew_of (clock (interval 1 2 ∷ []) (3, 4)) (1, 2) ≡ (3, 4)
own_skew = refl

own_zero_skew : skew_of (clock (interval 1 2 ∷ []) (0, 0)) (1, 2) ≡ (0, 0)
own_zero_skew = refl

skew_of_header : skew_of (plain_clock (interval 1 2 ∷ [])) (1, 2) ≡ (1, 2)
skew_of_header = refl

-- ---- quiet slots, of four units of three ticks

abbrev calm : List Span → List ℕ
calm spans = shown (quiet spans (header 4 3)) 12

-- ticks 3 to 8 are inside, so slots 4 to 8 are quiet
inside : calm (interval 1 3 ∷ []) ≡ codes "000011111000"
inside = refl

-- slot 0 is the step into the interval
all_but_zero : calm (interval 0 4 ∷ []) ≡ codes "011111111111"
all_but_zero = refl

inside_over_the_end : calm (interval 3 1 ∷ []) ≡ codes "111000000011"
inside_over_the_end = refl

inside_to_zero : calm (interval 3 0 ∷ []) ≡ codes "000000000011"
inside_to_zero = refl

inside_two : calm (interval 0 1 ∷ interval 2 3 ∷ []) ≡ codes "011000011000"
inside_two = refl

-- the slot where two intervals touch is not quiet
inside_touching : calm (interval 0 2 ∷ interval 2 4 ∷ []) ≡ codes "011111011111"
inside_touching = refl

without_intervals : calm [] ≡ codes "111111111111"
without_intervals = refl
