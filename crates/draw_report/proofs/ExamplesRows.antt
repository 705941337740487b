-- Rows of small circuits, and what is said above them, worked out on paper.
use Rattle.std.specs.Prelude.{◌≡◌, ℕ, ◌==◌, Bool, true, false, List, [], ◌∷◌, codes, map, if◌then◌else◌, Option, Some, None}
use Rattle.std.specs.Fmt.{digits}
use Rattle.std.proofs.Common.{refl}
use Rattle.scald_base.specs.Time.{Bounds, Header}
use Rattle.scald_base.specs.declared.assertion.AssertSpec.{AssertSpec}
use Rattle.scald_base.specs.declared.assertion.AssertSpec.TheVariants.{None as Unasserted, Clock, Precision, Stable}
use Rattle.element_kinds.specs.Kinds.{kinds}
use Rattle.element_kinds.specs.declared.kind.Kind.{Kind}
use Rattle.element_kinds.specs.declared.kind.Kind.TheVariants.{Latch}
use Rattle.vector_names.specs.declared.bits.Target.{Target}
use Rattle.vector_names.specs.declared.bits.Target.TheVariants.{Constant, Net as OnNet}
use Rattle.step_values.specs.declared.value.Value.TheVariants.{Zero, R, F}
use Rattle.skew_algebra.specs.Wave.{skewed}
use Rattle.flat_circuit.specs.declared.instance.Instance.{Instance}
use Rattle.flat_circuit.specs.declared.instance.Pin.{Pin}
use Rattle.flat_circuit.specs.declared.limits.Limits.TheVariants.{None as Unlimited}
use Rattle.flat_circuit.specs.declared.net.Net.{Net}
use Rattle.flat_circuit.specs.Circuit.{Circuit}
use Rattle.fixpoint_engine.specs.Waves.{Waves}
use Rattle.draw_report.specs.declared.row.Row.{Row}
use Rattle.draw_report.specs.Row.{are_clocks, follows, label, one_row, rows_of}
use Rattle.draw_report.specs.Below.{begins_with, has_below, rows_below}
use Rattle.draw_report.specs.Picture.{case_heading, case_view}

abbrev bounds : ℕ → ℕ → Bounds
bounds min max = record { min = min; max = max }

-- four units of two ticks
abbrev header : Header
header = record { units = 4; ticks = 2; wire = bounds 0 0; pskew = (0, 0); cskew = (0, 0) }

abbrev net : List ℕ → ℕ → AssertSpec → Net
net name bit spec = record { name = name; bit = bit; spec = spec; wire = bounds 0 0; driver = None }

abbrev bare : List ℕ → ℕ → Net
bare name bit = net name bit Unasserted

abbrev on : Target → Pin
on target = record { target = target; inverted = false; hold = false }

abbrev element : Kind → List Pin → Instance
element kind pins = record {
  path = [];
  bit = 0;
  kind = kind;
  delay = bounds 0 1;
  split = None;
  limits = Unlimited;
  pins = pins;
  out = None;
  out_inverted = false;
  place = record { line = 1; col = 1 };
}

abbrev circuit : List Net → List Instance → List ℕ → Circuit
circuit nets instances order =
    record { header = header; nets = nets; instances = instances; order = order }

-- ---- clocks

-- by their assertions
abbrev asserted : AssertSpec
asserted = Precision (record { spans = record { lo = 2; hi = 3 } ∷ []; low = false; skew = None })

abbrev edges_asserted : AssertSpec
edges_asserted = Clock (record { spans = record { lo = 2; hi = 3 } ∷ []; low = false; skew = None })

pub asserted_clocks : are_clocks (circuit
    (net (codes "A") 0 Unasserted ∷ net (codes "B") 0 asserted ∷ net (codes "C") 0 edges_asserted
    ∷ net (codes "D") 0 (Stable []) ∷ []) [] []) ≡ false ∷ true ∷ true ∷ false ∷ []
asserted_clocks = refl

-- By the pins that they are on: net 0 is on the first pin of an element of each kind, net 1 on its
-- second.
abbrev clocks_with : Kind → List Bool
clocks_with kind =
    are_clocks (circuit (bare (codes "A") 0 ∷ bare (codes "B") 0 ∷ [])
    (element kind (on (OnNet 0) ∷ on (OnNet 1) ∷ []) ∷ []) [])

pub clocks_on_pins : map clocks_with kinds
    ≡ (false ∷ false ∷ []) ∷ (false ∷ false ∷ []) ∷ (false ∷ false ∷ []) ∷ (false ∷ false ∷ [])
    ∷ (false ∷ false ∷ []) ∷ (false ∷ false ∷ []) ∷ (false ∷ false ∷ []) ∷ (false ∷ false ∷ [])
    ∷ (true ∷ false ∷ []) ∷ (true ∷ false ∷ []) ∷ (true ∷ false ∷ []) ∷ (true ∷ false ∷ [])
    ∷ (true ∷ false ∷ []) ∷ (true ∷ false ∷ []) ∷ (true ∷ false ∷ []) ∷ []
clocks_on_pins = refl

-- a constant is no net
pub constant_clock : are_clocks (circuit (bare (codes "A") 0 ∷ bare (codes "B") 0 ∷ [])
    (element Latch (on (Constant true) ∷ on (OnNet 0) ∷ []) ∷ []) []) ≡ false ∷ false ∷ []
constant_clock = refl

-- ---- rows: in name order A<0>, A<1>, G and Z, which asserts a clock; and a latch

abbrev enabled_by : ℕ → Circuit
enabled_by n =
    circuit (net (codes "Z") 0 asserted ∷ bare (codes "A") 0 ∷ bare (codes "A") 1 ∷ bare (codes "G") 0 ∷ [])
    (element Latch (on (OnNet n) ∷ on (OnNet 1) ∷ []) ∷ []) (1 ∷ 2 ∷ 3 ∷ 0 ∷ [])

-- all nets have one wave, or A<1> one of its own
abbrev one_wave : Waves
one_wave i = skewed (Zero ∷ R ∷ F ∷ Zero ∷ []) 0

abbrev another_wave : Waves
another_wave i = if i == 2 then skewed (Zero ∷ R ∷ F ∷ Zero ∷ []) 1 else one_wave i

-- G is the enable: clocks come first, and bits with one wave are one row
pub clocks_come_first : rows_of (enabled_by 3) one_wave ≡ one_row 2 3 ∷ one_row 3 4 ∷ one_row 0 2 ∷ []
clocks_come_first = refl

-- bits with two waves are two rows
pub waves_are_apart : rows_of (enabled_by 3) another_wave ≡ one_row 2 3 ∷ one_row 3 4 ∷ one_row 0 1 ∷ one_row 1 2 ∷ []
waves_are_apart = refl

-- A<1> is the enable: a clock is in no row with a net that is none, though both have one wave
pub clock_is_apart : rows_of (enabled_by 2) one_wave ≡ one_row 1 2 ∷ one_row 3 4 ∷ one_row 0 1 ∷ one_row 2 3 ∷ []
clock_is_apart = refl

-- ---- rows below a path

-- With its slash a path is that of a use, and of the uses in it. No other use is below it, though
-- its label begins alike; nor is a net of the use around it, nor a global one.
pub of_a_use : map (begins_with (codes "a/")) (
    codes "a/b<0>" ∷ codes "a/c/b<0>" ∷ codes "ab/b<0>" ∷ codes "ab<0>" ∷ codes "a<0>"
    ∷ codes "c/a/b<0>" ∷ codes "/a/b<0>" ∷ codes "A/b<0>" ∷ codes "a" ∷ [] ∷ [])
    ≡ true ∷ true ∷ false ∷ false ∷ false ∷ false ∷ false ∷ false ∷ false ∷ false ∷ []
of_a_use = refl

-- without it both uses are
pub of_both_uses : map (begins_with (codes "a")) (codes "a/b<0>" ∷ codes "ab/b<0>" ∷ codes "b<0>" ∷ [])
    ≡ true ∷ true ∷ false ∷ []
of_both_uses = refl

-- Of a/D, ab/D and D, which have one wave, all three are rows, and the first is below a/.
abbrev in_uses : Circuit
in_uses =
    circuit (bare (codes "D") 0 ∷ bare (codes "a/D") 0 ∷ bare (codes "ab/D") 0 ∷ []) []
    (0 ∷ 1 ∷ 2 ∷ [])

pub uses_are_apart : map (λ path. rows_below in_uses (Some path) (rows_of in_uses one_wave))
    (codes "a/" ∷ codes "a" ∷ codes "ab/" ∷ codes "D" ∷ codes "b" ∷ [])
    ≡ (one_row 1 2 ∷ []) ∷ (one_row 1 2 ∷ one_row 2 3 ∷ []) ∷ (one_row 2 3 ∷ []) ∷ (one_row 0 1 ∷ [])
    ∷ [] ∷ []
unfolding digits
uses_are_apart = refl

abbrev below : List (Option (List ℕ)) → List (List Row)
below paths =
    map (λ under. rows_below (enabled_by 3) under (rows_of (enabled_by 3) one_wave)) paths

-- of A<0:1> one bit may be below a path, or both
pub some_are_below : below (Some (codes "A") ∷ Some (codes "A<0>") ∷ Some (codes "A<1")
    ∷ Some (codes "Z<0>0") ∷ [])
    ≡ (one_row 0 2 ∷ []) ∷ (one_row 0 1 ∷ []) ∷ (one_row 1 2 ∷ []) ∷ [] ∷ []
unfolding digits
some_are_below = refl

pub all_are_below : below (None ∷ Some [] ∷ [])
    ≡ (one_row 2 3 ∷ one_row 3 4 ∷ one_row 0 2 ∷ []) ∷ (one_row 2 3 ∷ one_row 3 4 ∷ one_row 0 2 ∷ [])
    ∷ []
unfolding digits
all_are_below = refl

pub are_there : map (has_below (enabled_by 3)) (None ∷ Some [] ∷ Some (codes "Z<0>")
    ∷ Some (codes "Z<0>0") ∷ Some (codes "a") ∷ [])
    ≡ true ∷ true ∷ true ∷ false ∷ false ∷ []
unfolding digits
are_there = refl

-- without nets none is below any path
pub are_none : map (has_below (circuit [] [] [])) (None ∷ Some [] ∷ []) ≡ true ∷ false ∷ []
are_none = refl

-- ---- the next bit of the same name follows, and no other: not a lower one, nor one after a gap
abbrev bits : List Net → Circuit
bits nets = circuit nets [] (0 ∷ 1 ∷ 2 ∷ 3 ∷ 4 ∷ [])

pub next_bits_follow : map (follows (bits (bare (codes "A") 0 ∷ bare (codes "A") 1 ∷ bare (codes "A") 3 ∷ bare (codes "B") 4 ∷ bare (codes "B") 3 ∷ [])))
    (1 ∷ 2 ∷ 3 ∷ 4 ∷ []) ≡ true ∷ false ∷ false ∷ false ∷ []
next_bits_follow = refl

-- ---- labels

pub label_of_two : label (enabled_by 3) (one_row 0 2) ≡ codes "A<0:1>"
unfolding digits
label_of_two = refl

pub label_of_one : label (enabled_by 3) (one_row 1 2) ≡ codes "A<1>"
unfolding digits
label_of_one = refl

-- ---- what is said above a case, and which slots are shown

pub headings : map (case_heading (enabled_by 3)) (record { number = None; tick = 12 } ∷ record { number = Some 2; tick = 7 } ∷ [])
    ≡ codes "4 nets, period 8, two periods; holds from tick 12 on" ∷ codes "case 2: 4 nets, period 8, two periods; holds from tick 7 on" ∷ []
unfolding digits
headings = refl

-- two periods, from tick 0 on
pub two_periods : case_view (enabled_by 3) ≡ record { first = 0; count = 16; period = 8; unit = 2; moved = 0 }
two_periods = refl
