-- UNMARKED: gates without a hazard mark that let a clock through to storage or a checker, and
-- another pin of which may change in a case in which the clock does.
use Rattle.std.specs.Prelude.{◌≡◌, ℕ, Bool, true, false, not, ◌&&◌, List, [], ◌∷◌, length, codes, decimal, slice_get, slice_index_or, is_none, nat_lt, if◌then◌else◌, Option, Some, None}
use Rattle.std.specs.List.{flat_map, list_any, position_from, range_with_len}
use Rattle.scald_base.specs.declared.assertion.AssertSpec.{AssertSpec}
use Rattle.scald_base.specs.declared.assertion.AssertSpec.TheVariants.{None as Unasserted, Precision, Clock, Stable}
use Rattle.vector_names.specs.declared.bits.Target.{Target}
use Rattle.vector_names.specs.declared.bits.Target.TheVariants.{Net as OnNet, Constant}
use Rattle.element_kinds.specs.declared.kind.Kind.{Kind}
use Rattle.element_kinds.specs.declared.kind.Kind.TheVariants.{Buf, And, Or, Xor, Mux2, Mux4, Mux8, Chg, Reg, RegRs, Latch, LatchRs, SetupHold, RiseFall, MinPulse}
use Rattle.element_kinds.specs.declared.form.Form.{Form}
use Rattle.element_kinds.specs.Kinds.{by_form, is_function}
use Rattle.flat_circuit.specs.declared.instance.Pin.{Pin}
use Rattle.flat_circuit.specs.declared.instance.Instance.{Instance}
use Rattle.flat_circuit.specs.declared.net.Net.{Net}
use Rattle.flat_circuit.specs.Circuit.{Circuit, driver}
use Rattle.fixpoint_engine.specs.Settled.{marked_in}
use Rattle.fixpoint_engine.specs.Waves.{Waves, marked_pin}
use Rattle.timing_analysis.specs.Case.{Case}
use Rattle.listing.specs.Text.{line}
use Rattle.listing.specs.Names.{instance_text, net_text}
use Rattle.drawing_notes.specs.Passing.{changes_on}
use Rattle.drawing_notes.specs.Paths.{leads}
use Rattle.drawing_notes.specs.Pins.{clock_of, is_net, passes, pin_net}
use Rattle.drawing_notes.specs.Search.{IsFound}

-- ---- clocks, and what they have to reach

abbrev pub asserts_clock : AssertSpec → Bool
asserts_clock Unasserted = false
asserts_clock (Precision clock) = true
asserts_clock (Clock clock) = true
asserts_clock (Stable spans) = false

abbrev pub is_asserted_clock : Option Net → Bool
is_asserted_clock None = false
is_asserted_clock (Some n) = asserts_clock n.spec

-- a `.P` or `.C` net
abbrev pub is_clock : Circuit → ℕ → Bool
is_clock c i = is_asserted_clock (slice_get c.nets i)

abbrev pub is_gated_by : Option Instance → Bool
is_gated_by None = false
is_gated_by (Some j) = by_form is_function j.kind

-- BUF, AND, OR, XOR or a MUX drives the net
abbrev pub is_gated : Circuit → ℕ → Bool
is_gated c i = is_gated_by (driver c i)

-- such a net, or one that it reaches through those gates alone
abbrev pub TellsClocks : Circuit → (ℕ → Bool) → Type 0
TellsClocks c clocks = IsFound (leads c) (is_gated c) (is_clock c) clocks

-- storage, or a checker, whose first pin is on the net: its clock, its enable, or the one pin of
-- a checker of pulses
abbrev pub times_by : ℕ → Instance → Bool
times_by i j = not (passes j.kind) && is_net i (pin_net (clock_of j))

abbrev pub times_at : ℕ → Option Instance → Bool
times_at i None = false
times_at i (Some j) = times_by i j

-- exactly what such gates drive is marked
abbrev pub AreGated : Circuit → List Bool → Type 0
AreGated c marks = (length marks ≡ length c.nets) × ((i : ℕ) → marked_in marks i ≡ is_gated c i)

-- what such a gate drives, with such a pin on it
abbrev pub is_timing : Circuit → ℕ → Bool
is_timing c i = is_gated c i && list_any (times_by i) c.instances

-- and what such a gate drives that reaches one of these through those gates alone
abbrev pub TellsTimed : Circuit → (ℕ → Bool) → Type 0
TellsTimed c timed = IsFound (λ from i. leads c i from) (is_gated c) (is_timing c) timed

-- ---- gates

abbrev pub is_marked_kind : Kind → Bool
is_marked_kind Buf = false
is_marked_kind And = true
is_marked_kind Or = true
is_marked_kind Xor = false
is_marked_kind Mux2 = true
is_marked_kind Mux4 = true
is_marked_kind Mux8 = true
is_marked_kind Chg = false
is_marked_kind Reg = false
is_marked_kind RegRs = false
is_marked_kind Latch = false
is_marked_kind LatchRs = false
is_marked_kind SetupHold = false
is_marked_kind RiseFall = false
is_marked_kind MinPulse = false

abbrev pub target_in : (ℕ → Bool) → Target → Bool
target_in nets (OnNet i) = nets i
target_in nets (Constant one) = false

abbrev pub out_in : (ℕ → Bool) → Option Target → Bool
out_in nets None = false
out_in nets (Some t) = target_in nets t

-- an AND, an OR or a MUX without a mark, whose output is timed
abbrev pub is_bare : (ℕ → Bool) → Instance → Bool
is_bare timed j = is_marked_kind j.kind && (is_none (marked_pin j) && out_in timed j.out)

-- in a case a pin that a clock reaches may change
abbrev pub clock_changes : (ℕ → Bool) → Waves → Instance → Bool
clock_changes clocks ws j =
    list_any (λ (p : Pin). target_in clocks p.target && changes_on ws p.target) j.pins

-- and with it this one, which none reaches
abbrev pub changes_beside : (ℕ → Bool) → Waves → Instance → Pin → Bool
changes_beside clocks ws j p =
    clock_changes clocks ws j && (not (target_in clocks p.target) && changes_on ws p.target)

abbrev pub changes_in_some : (ℕ → Bool) → List Case → Instance → Pin → Bool
changes_in_some clocks cases j p =
    list_any (λ (case : Case). changes_beside clocks case.waves j p) cases

-- its first pin that does so in some case
abbrev pub first_beside : (ℕ → Bool) → (ℕ → Bool) → List Case → Instance → Option ℕ
first_beside clocks timed cases j =
    if is_bare timed j
    then position_from (changes_in_some clocks cases j) 0 j.pins
    else None

abbrev pub first_of : (ℕ → Bool) → (ℕ → Bool) → List Case → Option Instance → Option ℕ
first_of clocks timed cases None = None
first_of clocks timed cases (Some j) = first_beside clocks timed cases j

-- ---- notes

unfoldable pub unmarked_line : Circuit → ℕ → ℕ → ℕ → List ℕ
unmarked_line c k place net = line (
    codes "NOTE UNMARKED " ∷ instance_text c k ∷ codes " PIN " ∷ decimal place ∷ codes " "
    ∷ net_text c net ∷ [])

abbrev pub unmarked_on : Circuit → ℕ → ℕ → Option ℕ → List (List ℕ)
unmarked_on c k place None = []
unmarked_on c k place (Some net) = unmarked_line c k place net ∷ []

abbrev pub unmarked_pin : Circuit → ℕ → Option Instance → Option ℕ → List (List ℕ)
unmarked_pin c k None place = []
unmarked_pin c k (Some j) None = []
unmarked_pin c k (Some j) (Some place) = unmarked_on c k place (pin_net (slice_get j.pins place))

-- by the place of the pin that is noted of each instance
abbrev pub unmarked_at : Circuit → (ℕ → Option ℕ) → ℕ → List (List ℕ)
unmarked_at c place k = unmarked_pin c k (slice_get c.instances k) (place k)

-- in the order of expansion
abbrev pub unmarked_by : Circuit → (ℕ → Option ℕ) → List (List ℕ)
unmarked_by c place = flat_map (unmarked_at c place) (range_with_len 0 (length c.instances))

abbrev pub unmarked : Circuit → (ℕ → Bool) → (ℕ → Bool) → List Case → List (List ℕ)
unmarked c clocks timed cases =
    unmarked_by c (λ k. first_of clocks timed cases (slice_get c.instances k))

-- ---- the same by the first pin of each instance, in the cases so far

abbrev pub first_at : List (Option ℕ) → ℕ → Option ℕ
first_at firsts k = slice_index_or firsts k None

-- the same in one case
abbrev pub first_in : (ℕ → Bool) → (ℕ → Bool) → Waves → Option Instance → Option ℕ
first_in clocks timed ws None = None
first_in clocks timed ws (Some j) =
    if is_bare timed j then position_from (changes_beside clocks ws j) 0 j.pins else None

-- the earlier of two places
abbrev pub earlier : Option ℕ → Option ℕ → Option ℕ
earlier None second = second
earlier (Some a) None = Some a
earlier (Some a) (Some b) = if nat_lt b a then Some b else Some a

abbrev pub AreFirst : Circuit → (ℕ → Bool) → (ℕ → Bool) → List Case → List (Option ℕ) → Type 0
AreFirst c clocks timed cases firsts =
    (k : ℕ) → first_at firsts k ≡ first_of clocks timed cases (slice_get c.instances k)
