-- Narrowings of a small circuit, computed: what parts make of it, which runs keep to them, and where it may be split.
use Rattle.std.proofs.Common.{◌≡◌, ℕ, zero, suc, ◌≤◌, ◌<◌, true, false, [], ◌∷◌, refl, sym, ap, ◌∙◌, arith, subst, Some, None}
use Rattle.std.proofs.lemmas.List.Elements.{All-cons, All-nil, recursion_from_All}
use Rattle.scald_base.specs.Clock.{back}
use Rattle.scald_base.specs.Time.{Header}
use Rattle.scald_base.specs.declared.assertion.ClockSpec.{ClockSpec}
use Rattle.scald_base.specs.declared.assertion.Span.{Span}
use Rattle.scald_base.specs.declared.assertion.AssertSpec.TheVariants.{None as Unasserted, Precision, Stable}
use Rattle.element_kinds.specs.declared.kind.Kind.TheVariants.{And, Buf, Chg, MinPulse}
use Rattle.element_kinds.specs.Kinds.{form_of}
use Rattle.flat_circuit.specs.declared.fault.Fault.TheVariants.{Assertion, Hazard, Point, Width}
use Rattle.flat_circuit.specs.declared.fault.PointKind.TheVariants.{Setup}
use Rattle.flat_circuit.specs.declared.instance.Instance.{Instance}
use Rattle.flat_circuit.specs.Circuit.{Circuit}
use Rattle.flat_circuit.specs.declared.net.Net.{Net}
use Rattle.flat_circuit.specs.Run.{Choice, Run, net_signal}
use Rattle.flat_circuit.proofs.RunTables.{bounds, checker, circuit, driven_by, element, input, late, on, split_element, two}
use Rattle.narrowing.specs.declared.constraint.Constraint.TheVariants.{Instance as OfInstance, Net as OfNet, Pulse as OfPulse}
use Rattle.narrowing.specs.declared.part.Part.TheVariants.{Constant, Delay, Fall, Offset, Rise}
use Rattle.narrowing.specs.Constraint.{constraint_of, is_of}
use Rattle.narrowing.specs.Narrowed.{fine_clock, fine_header, fine_spec, if_undriven, moved_clock, narrowed, narrowed_cases, offset_in}
use Rattle.narrowing.specs.Part.{AreApart, HasDelay, IsConstantBy, IsLate, KeepsTo, MayBeLate, PartFits, most_late, none, one_more, same_thing, with_part}
use Rattle.narrowing.specs.Tree.{AreHalves, IsSplit, leaf, leaves, offset_bounds, split}

-- ---- constraints

-- a MIN_PULSE_CHK has two constraints, and every other checker and element one
constraints : (constraint_of (Width 3 true 100 50) ≡ OfPulse 3 true) × (constraint_of (Width 3 false 100 50) ≡ OfPulse 3 false)
    × (constraint_of (Point Setup 4 100 81 67) ≡ OfInstance 4) × (constraint_of (Hazard 5 10 1) ≡ OfInstance 5)
    × (constraint_of (Assertion 6 10 67) ≡ OfNet 6)
constraints = (refl, refl, refl, refl, refl)

-- a fault of the one width is none of the other, nor of another instance
own_faults : (is_of (OfPulse 3 true) (Width 3 true 100 50) ≡ true) × (is_of (OfPulse 3 true) (Width 3 false 100 50) ≡ false)
    × (is_of (OfPulse 3 true) (Width 4 true 100 50) ≡ false) × (is_of (OfInstance 4) (Hazard 4 10 1) ≡ true)
    × (is_of (OfInstance 4) (Assertion 4 10 67) ≡ false) × (is_of (OfNet 4) (Assertion 4 10 67) ≡ true)
own_faults = (refl, refl, refl, refl, refl, refl)

-- ---- a circuit: a buffer, a gate with two delays, a change function and a checker

abbrev buffer : Instance
buffer = element Buf (bounds 20 40) (on 0 ∷ []) 1

abbrev gate : Instance
gate = split_element And (two 1 9 2 6) (on 0 ∷ on 1 ∷ []) 2

abbrev change : Instance
change = element Chg (bounds 3 5) (on 2 ∷ []) 3

abbrev small : Circuit
small = circuit (input ∷ driven_by 0 ∷ driven_by 1 ∷ driven_by 2 ∷ []) (buffer ∷ gate ∷ change ∷ checker MinPulse (on 3 ∷ []) ∷ [])

-- ---- what parts make of it

-- the one delay of the instance that the part names, and no other
one_delay : (narrowed small (Delay 0 31 40 ∷ [])).instances
    ≡ element Buf (bounds 31 40) (on 0 ∷ []) 1 ∷ gate ∷ change ∷ checker MinPulse (on 3 ∷ []) ∷ []
one_delay = refl

-- a rise delay, and the bounds that span both
rise_delay : (narrowed small (Rise 1 7 9 ∷ [])).instances
    ≡ buffer ∷ split_element And (two 7 9 2 6) (on 0 ∷ on 1 ∷ []) 2 ∷ change ∷ checker MinPulse (on 3 ∷ []) ∷ []
rise_delay = refl

rise_and_fall : (narrowed small (Rise 1 7 9 ∷ Fall 1 2 3 ∷ [])).instances
    ≡ buffer ∷ split_element And (two 7 9 2 3) (on 0 ∷ on 1 ∷ []) 2 ∷ change ∷ checker MinPulse (on 3 ∷ []) ∷ []
rise_and_fall = refl

-- a constant leaves the circuit as it is, and is in its case
constant_net : (narrowed small (Constant 0 true ∷ [])).instances ≡ small.instances
constant_net = refl

the_case : narrowed_cases (record { net = 2; one = false } ∷ []) (Delay 0 31 40 ∷ Constant 0 true ∷ [])
    ≡ (record { net = 2; one = false } ∷ record { net = 0; one = true } ∷ []) ∷ []
the_case = refl

-- no net is set: there is no case
no_case : narrowed_cases [] (Delay 0 31 40 ∷ []) ≡ []
no_case = refl

-- ---- parts, one for each thing

-- a part takes the place of that of the same thing, at the end
once : (with_part (Delay 0 20 30 ∷ Constant 0 true ∷ []) (Delay 0 20 25) ≡ Constant 0 true ∷ Delay 0 20 25 ∷ [])
    × (with_part (Delay 0 20 30 ∷ []) (Delay 1 20 25) ≡ Delay 0 20 30 ∷ Delay 1 20 25 ∷ [])
    × (with_part (Rise 1 1 4 ∷ []) (Fall 1 2 3) ≡ Rise 1 1 4 ∷ Fall 1 2 3 ∷ [])
once = (refl, refl, refl)

apart : AreApart (Delay 0 20 30 ∷ Constant 0 true ∷ [])
apart =
    one_more
    (All-cons (λ q. same_thing (Delay 0 20 30) q ≡ false) (Constant 0 true) [] refl
    (All-nil (λ q. same_thing (Delay 0 20 30) q ≡ false)))
    (one_more (All-nil (λ q. same_thing (Constant 0 true) q ≡ false)) none)

-- two parts of one delay are not
not_apart : AreApart (Delay 0 20 30 ∷ Delay 0 25 30 ∷ []) → ⊥
not_apart (one_more away rest) =
    let other : true ≡ false =
    (recursion_from_All (λ q. same_thing (Delay 0 20 30) q ≡ false) (Delay 0 25 30 ∷ []) away).0 in cc

-- ---- which parts there are

constant_by : IsConstantBy Unasserted × IsConstantBy (Stable [])
constant_by = (tt, tt)

not_constant_by : IsConstantBy (Stable (record { lo = 1; hi = 4 } ∷ [])) → ⊥
not_constant_by h = h

-- bounds within its own, and not past them
fits : PartFits small [] (Delay 0 31 40)
fits = record {
  instance = buffer;
  there = refl;
  is = record {
    has = tt;
    one = refl;
    within = record { least_in = omega arith; ordered = omega arith; greatest_in = omega arith };
  };
}

past_its_own : PartFits small [] (Delay 0 31 41) → ⊥
past_its_own h =
    let it : h.instance ≡ buffer = cc in
    let most : 41 ≤ h.instance.delay.max = h.is.within.greatest_in in
    let same : h.instance.delay.max ≡ 40 = ap (λ (j : Instance). j.delay.max) it in omega arith

-- a change function has no delay that is constant
no_change : PartFits small [] (Delay 2 3 4) → ⊥
no_change h =
    let it : change ≡ h.instance = cc in
    let kind : h.instance.kind ≡ Chg = cc in
    subst (λ k. HasDelay (form_of k)) kind h.is.has

-- a driven net is no constant
not_driven : PartFits small [] (Constant 1 true) → ⊥
not_driven h = cc

-- nor is one that the case sets
not_in_case : PartFits small (record { net = 0; one = false } ∷ []) (Constant 0 true) → ⊥
not_in_case h = cc

-- ---- runs

-- the buffer is 30 ticks late
abbrev thirty : Run
thirty = record { ticks = 2; choices = late 30 (0 ∷ []) ∷ []; bits = (true ∷ true ∷ []) ∷ (false ∷ true ∷ []) ∷ [] }

keeps_delay : KeepsTo small thirty (Delay 0 20 30)
keeps_delay choice there = let same : late 30 (0 ∷ []) ≡ choice = cc in subst (λ (x : Choice). (20 ≤ x.delay) × (x.delay ≤ 30)) same (omega arith, omega arith)

not_the_other_half : KeepsTo small thirty (Delay 0 31 40) → ⊥
not_the_other_half h = let at : 31 ≤ 30 = (h (late 30 (0 ∷ [])) refl).0 in omega arith

keeps_bit : KeepsTo small thirty (Constant 0 true)
keeps_bit zero less = refl
keeps_bit (suc zero) less = refl
keeps_bit (suc (suc t)) less = absurd (omega arith)

not_the_other_bit : KeepsTo small thirty (Constant 0 false) → ⊥
not_the_other_bit h = let at : true ≡ false = h 0 (omega arith) in cc

-- a net that changes keeps to neither bit
changes_away : KeepsTo small thirty (Constant 1 true) → ⊥
changes_away h = let at : false ≡ true = h 0 (omega arith) in cc

-- ---- splits and trees

halves : AreHalves (bounds 20 40) 20 30 31 40
halves = record { begins = refl; ordered = omega arith; follows = refl; more = omega arith; ends = refl }

-- a number left out between them
gap : AreHalves (bounds 20 40) 20 30 32 40 → ⊥
gap h = omega (arith, h.follows)

-- an upper half without a number
nothing_left : AreHalves (bounds 20 40) 20 40 41 40 → ⊥
nothing_left h = let more : 40 < 40 = h.more in omega arith

-- halves of the bounds that the node gives, and not of the instance's own
of_the_node : IsSplit small [] (Delay 0 20 30 ∷ []) (Delay 0 20 25) (Delay 0 26 30)
of_the_node = (
  refl,
  record {
    instance = element Buf (bounds 20 30) (on 0 ∷ []) 1;
    there = refl;
    is = (
      record {
        has = tt;
        one = refl;
        within = record { least_in = omega arith; ordered = omega arith; greatest_in = omega arith };
      },
      record { begins = refl; ordered = omega arith; follows = refl; more = omega arith; ends = refl },
    );
  },
)

not_its_own : IsSplit small [] (Delay 0 20 30 ∷ []) (Delay 0 20 30) (Delay 0 31 40) → ⊥
not_its_own h =
    let it : element Buf (bounds 20 30) (on 0 ∷ []) 1 ≡ h.1.instance = cc in
    let ends : 40 ≡ h.1.instance.delay.max = h.1.is.1.ends in
    let same : h.1.instance.delay.max ≡ 30 = sym (ap (λ (j : Instance). j.delay.max) it) in omega arith

-- ---- offsets of clocks

-- four units of two ticks; a clock comes up to one tick early and up to two late
abbrev by_twos : Header
by_twos = record { units = 4; ticks = 2; wire = bounds 0 0; pskew = (1, 2); cskew = (0, 0) }

abbrev span : ℕ → ℕ → Span
span lo hi = record { lo = lo; hi = hi }

-- 1 at the ticks 2 and 3
abbrev clock : ClockSpec
clock = record { spans = span 1 2 ∷ []; skew = None; low = false }

in_ticks : (fine_header by_twos ≡ record by_twos { units = 8; ticks = 1 })
    × (fine_clock by_twos clock ≡ record { spans = span 2 4 ∷ []; skew = None; low = false })
    × (fine_spec by_twos (Stable (span 3 1 ∷ span 0 4 ∷ [])) ≡ Stable (span 6 2 ∷ span 0 8 ∷ []))
in_ticks = (refl, refl, refl)

-- at its earliest, one tick before the ideal clock, and up to one tick later than that
at_earliest : moved_clock by_twos clock (bounds 0 1) ≡ record { spans = span 1 3 ∷ []; skew = Some (0, 1); low = false }
unfolding back
at_earliest = refl

-- two to three ticks later than at its earliest
later : moved_clock by_twos clock (bounds 2 3) ≡ record { spans = span 3 5 ∷ []; skew = Some (0, 1); low = false }
unfolding back
later = refl

-- over the end of the period
around : moved_clock by_twos (record clock { spans = span 3 4 ∷ [] }) (bounds 3 3)
    ≡ record { spans = span 0 2 ∷ []; skew = Some (0, 0); low = false }
unfolding back
around = refl

given_offset : (offset_in 0 (Delay 0 20 30 ∷ Offset 1 0 1 ∷ Offset 0 2 3 ∷ []) ≡ Some (bounds 2 3))
    × (offset_in 2 (Offset 1 0 1 ∷ []) ≡ None) × (if_undriven (Some 4) (Some (bounds 2 3)) ≡ None)
    × (offset_bounds by_twos clock None ≡ bounds 0 3) × (offset_bounds by_twos clock (Some (bounds 2 3)) ≡ bounds 2 3)
given_offset = (refl, refl, refl, refl, refl)

abbrev ticking : Net
ticking = record input { spec = Precision clock }

abbrev clocked : Circuit
clocked = record (circuit (ticking ∷ driven_by 0 ∷ []) (buffer ∷ [])) { header = by_twos }

ticks_there : MayBeLate clocked 0 clock
ticks_there = record { is = ticking; there = refl; undriven = refl; precise = refl }

has_offset : PartFits clocked [] (Offset 0 0 3)
has_offset = record { clock = clock; may = ticks_there; ordered = omega arith; greatest_in = omega arith }

-- past its skew
too_late : PartFits clocked [] (Offset 0 0 4) → ⊥
too_late h =
    let net : ticking ≡ h.may.is = cc in
    let own : Precision clock ≡ Precision h.clock = ap (λ (n : Net). n.spec) net ∙ h.may.precise in
    let same : clock ≡ h.clock = cc in
    let most : 4 ≤ 3 = subst (λ (k : ClockSpec). 4 ≤ most_late by_twos k) (sym same) h.greatest_in in omega arith

-- the buffer's net is no input
driven_clock : PartFits clocked [] (Offset 1 0 0) → ⊥
driven_clock h = cc

-- in the narrowed circuit the input's clock is moved, and the rest is as it was
narrowed_clock : (narrowed clocked (Offset 0 2 3 ∷ [])).nets
    ≡ record input { spec = Precision (record { spans = span 3 5 ∷ []; skew = Some (0, 1); low = false }) } ∷ driven_by 0 ∷ []
unfolding back
narrowed_clock = refl

-- a run of three ticks whose clock comes at its earliest
abbrev early : Run
early = record { ticks = 3; choices = late 30 (0 ∷ []) ∷ []; bits = (false ∷ true ∷ true ∷ []) ∷ (true ∷ true ∷ true ∷ []) ∷ [] }

is_early : IsLate by_twos clock 3 (net_signal early 0) 0
unfolding back
is_early zero less = refl
is_early (suc zero) less = refl
is_early (suc (suc zero)) less = refl
is_early (suc (suc (suc t))) less = absurd (omega arith)

keeps_offset : KeepsTo clocked early (Offset 0 0 1)
keeps_offset = record { clock = clock; may = ticks_there; by = 0; within = (omega arith, omega arith); late = is_early }

offset_halves : IsSplit clocked [] [] (Offset 0 0 1) (Offset 0 2 3)
offset_halves = (
  refl,
  record {
    clock = clock;
    may = ticks_there;
    halves = record { begins = refl; ordered = omega arith; follows = refl; more = omega arith; ends = refl };
  },
)

-- halves of what the node gives
offset_of_the_node : IsSplit clocked [] (Offset 0 0 1 ∷ []) (Offset 0 0 0) (Offset 0 1 1)
offset_of_the_node = (
  refl,
  record {
    clock = clock;
    may = ticks_there;
    halves = record { begins = refl; ordered = omega arith; follows = refl; more = omega arith; ends = refl };
  },
)

-- two halves of different things are no split
of_two_things : IsSplit small [] [] (Delay 0 20 30) (Constant 0 true) → ⊥
of_two_things h = h

-- the leaves, the lower half first
in_order : leaves (split (Constant 0 false) (Constant 0 true) leaf (split (Delay 0 20 30) (Delay 0 31 40) leaf leaf)) []
    ≡ (Constant 0 false ∷ []) ∷ (Constant 0 true ∷ Delay 0 20 30 ∷ []) ∷ (Constant 0 true ∷ Delay 0 31 40 ∷ []) ∷ []
in_order = refl
