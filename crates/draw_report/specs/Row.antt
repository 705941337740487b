-- Which nets are one row, in which order rows stand, and their labels.
use Rattle.std.specs.Prelude.{◌≡◌, ℕ, zero, suc, ◌+◌, ◌-◌, ◌<◌, ◌==◌, ◌&&◌, ◌||◌, not, min, nat_le, Bool, true, false, List, [], ◌∷◌, ◌++◌, length, map, drop, codes, decimal, Option, Some, None, slice_get, if◌then◌else◌}
use Rattle.std.specs.List.{All, concat, filter, flat_map, list_any, range_with_len}
use mathlib.Core.Bool.{beq}
use Rattle.std.specs.Str.{bytes_eq}
use Rattle.scald_base.specs.declared.assertion.AssertSpec.{AssertSpec}
use Rattle.scald_base.specs.declared.assertion.AssertSpec.TheVariants.{None as Unasserted, Precision, Clock, Stable}
use Rattle.element_kinds.specs.declared.form.Form.{Form}
use Rattle.element_kinds.specs.declared.form.Form.TheVariants.{Gate, Change, Register, Latch, Checker}
use Rattle.element_kinds.specs.Kinds.{form_of}
use Rattle.vector_names.specs.declared.bits.Target.{Target}
use Rattle.vector_names.specs.declared.bits.Target.TheVariants.{Net as OnNet, Constant}
use Rattle.flat_circuit.specs.declared.instance.Instance.{Instance}
use Rattle.flat_circuit.specs.declared.instance.Pin.{Pin}
use Rattle.flat_circuit.specs.declared.net.Net.{Net}
use Rattle.flat_circuit.specs.Name.{Name, name_at, net_at}
use Rattle.flat_circuit.specs.Circuit.{Circuit, net_names}
use Rattle.fixpoint_engine.specs.Same.{same_wave}
use Rattle.fixpoint_engine.specs.Waves.{Waves}
use Rattle.draw_report.specs.declared.row.Row.{Row}
use Rattle.draw_report.specs.Element.{Chars, Word}

-- ---- clocks

-- its first pin is a clock, an enable, or one whose pulses are measured
abbrev pub has_clock : Form → Bool
has_clock Gate = false
has_clock Change = false
has_clock (Register forced) = true
has_clock (Latch forced) = true
has_clock (Checker check) = true

abbrev pub is_on : ℕ → Target → Bool
is_on n (OnNet m) = m == n
is_on n (Constant one) = false

abbrev pub first_is_on : ℕ → List Pin → Bool
first_is_on n [] = false
first_is_on n (pin ∷ pins) = is_on n pin.target

abbrev pub is_clocked_by : ℕ → Instance → Bool
is_clocked_by n i = has_clock (form_of i.kind) && first_is_on n i.pins

abbrev pub asserts_clock : AssertSpec → Bool
asserts_clock Unasserted = false
asserts_clock (Precision clock) = true
asserts_clock (Clock clock) = true
asserts_clock (Stable spans) = false

abbrev pub asserts_in : Option Net → Bool
asserts_in None = false
asserts_in (Some net) = asserts_clock net.spec

-- the net of a number is a clock
abbrev pub is_clock : Circuit → ℕ → Bool
is_clock c n = asserts_in (slice_get c.nets n) || list_any (is_clocked_by n) c.instances

abbrev pub are_clocks : Circuit → List Bool
are_clocks c = map (is_clock c) (range_with_len 0 (length c.nets))

-- ---- rows

-- the name of the net at a place in name order
abbrev pub name_of : Circuit → ℕ → Name
name_of c place = name_at (net_names c.nets) (net_at c.order place)

-- the net at a place has the name of the one before it, and the next bit
abbrev pub follows : Circuit → ℕ → Bool
follows c place =
    bytes_eq (name_of c (place - 1)).text (name_of c place).text
    && ((name_of c (place - 1)).bit + 1 == (name_of c place).bit)

-- it is a clock where that is one, and has the same wave
abbrev pub is_alike : Circuit → Waves → ℕ → Bool
is_alike c ws place =
    beq (is_clock c (net_at c.order (place - 1))) (is_clock c (net_at c.order place))
    && same_wave (ws (net_at c.order (place - 1))) (ws (net_at c.order place))

-- so it is in one row with it
abbrev pub joins : Circuit → Waves → ℕ → Bool
joins c ws place = follows c place && is_alike c ws place

abbrev pub one_row : ℕ → ℕ → Row
one_row from to = record { from = from; to = to }

-- from a row on that ends at a place, with so many places after it
abbrev pub cut : (ℕ → Bool) → ℕ → ℕ → ℕ → List Row
cut joins from place zero = one_row from place ∷ []
cut joins from place (suc more) =
    if joins place then cut joins from (place + 1) more
    else one_row from place ∷ cut joins place (place + 1) more

abbrev pub cut_all : (ℕ → Bool) → ℕ → List Row
cut_all joins zero = []
cut_all joins (suc more) = cut joins 0 1 more

-- in name order
abbrev pub named_rows : Circuit → Waves → List Row
named_rows c ws = cut_all (joins c ws) (length c.nets)

abbrev pub is_clock_row : Circuit → Row → Bool
is_clock_row c r = is_clock c (net_at c.order r.from)

abbrev pub is_other_row : Circuit → Row → Bool
is_other_row c r = not (is_clock_row c r)

-- the clocks, and then the others
abbrev pub clocks_first : Circuit → List Row → List Row
clocks_first c rs = filter (is_clock_row c) rs ++ filter (is_other_row c) rs

abbrev pub rows_of : Circuit → Waves → List Row
rows_of c ws = clocks_first c (named_rows c ws)

-- ---- what they are

-- their first nets exist
abbrev pub AreInside : Circuit → List Row → Type 0
AreInside c rs = All (λ (r : Row). r.from < length c.nets) rs

abbrev pub places : Row → List ℕ
places r = range_with_len r.from (r.to - r.from)

-- Each net is in one row of those in name order, each row has a net, and its nets are bits of one
-- name side by side with one wave.
pub record AreRows (c : Circuit) (ws : Waves) (rs : List Row) : Type 0 where
  pub cover : flat_map places rs ≡ range_with_len 0 (length c.nets)
  pub some : All (λ (r : Row). r.from < r.to) rs
  pub alike : All (λ (r : Row). (place : ℕ) → r.from < place → place < r.to →
      joins c ws place ≡ true) rs

abbrev pub RowsAre : Type 0
RowsAre = (c : Circuit) (ws : Waves) → AreRows c ws (named_rows c ws)

-- ---- labels

-- its bit, or its bits from the lowest to the highest
abbrev pub bits_text : ℕ → ℕ → List ℕ
bits_text low high =
    if low == high then decimal low else concat (decimal low ∷ codes ":" ∷ decimal high ∷ [])

abbrev pub label : Circuit → Row → List ℕ
label c r =
    concat ((name_of c r.from).text ∷ codes "<"
    ∷ bits_text (name_of c r.from).bit (name_of c (r.to - 1)).bit ∷ codes ">" ∷ [])

-- at most 40 bytes are shown: of a longer one the last 38, after two dots
abbrev pub shown : List ℕ → List Word
shown text =
    if nat_le (length text) 40 then Chars text ∷ []
    else Chars (codes "..") ∷ Chars (drop (length text - 38) text) ∷ []

abbrev pub shown_length : List ℕ → ℕ
shown_length text = min (length text) 40
