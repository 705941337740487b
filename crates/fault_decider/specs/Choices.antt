-- The lines of a run that shows a fault: its choices on which the break depends, and the steps that
-- lead to it.
use Rattle.std.specs.Prelude.{◌≡◌, ℕ, zero, suc, ◌+◌, ◌-◌, ◌<◌, ◌==◌, ◌&&◌, ◌||◌, max, Bool, true, false, not, nat_lt, is_none, if◌then◌else◌, List, [], ◌∷◌, ◌++◌, length, codes, decimal, slice_get, slice_index_or, Option, Some, None}
use Rattle.std.specs.List.{concat, flat_map, list_all, range_with_len}
use Rattle.scald_base.specs.Time.{Bounds, Header, period}
use Rattle.scald_base.specs.Clock.{ideal, back}
use Rattle.scald_base.specs.Fitting.{skew_of}
use Rattle.scald_base.specs.declared.assertion.ClockSpec.{ClockSpec}
use Rattle.scald_base.specs.declared.assertion.AssertSpec.{AssertSpec}
use Rattle.scald_base.specs.declared.assertion.AssertSpec.TheVariants.{None as Unasserted, Precision, Clock, Stable}
use Rattle.vector_names.specs.declared.bits.Target.{Target}
use Rattle.vector_names.specs.declared.bits.Target.TheVariants.{Net as OnNet, Constant}
use Rattle.element_kinds.specs.declared.form.Form.{Form}
use Rattle.element_kinds.specs.declared.form.Form.TheVariants.{Gate, Change, Register, Latch as Enabled, Checker}
use Rattle.element_kinds.specs.Kinds.{form_of}
use Rattle.flat_circuit.specs.declared.case.CaseValue.{CaseValue}
use Rattle.flat_circuit.specs.declared.instance.Instance.{Instance}
use Rattle.flat_circuit.specs.declared.instance.Pin.{Pin}
use Rattle.flat_circuit.specs.declared.net.Net.{Net}
use Rattle.flat_circuit.specs.declared.split.Split.{Split}
use Rattle.flat_circuit.specs.Split.{two_delays}
use Rattle.flat_circuit.specs.Circuit.{Circuit, wire_at}
use Rattle.case_analysis.specs.Case.{is_set}
use Rattle.listing.specs.Names.{instance_text, net_text}
use Rattle.listing.specs.Text.{line}
use Rattle.trace_tool.specs.declared.trace.Trace.{Trace}
use Rattle.trace_tool.specs.Trace.{pick_at, row_at, wires_at}

-- a number within bounds, if they are more than one number
abbrev pub bound_line : List (List ℕ) → ℕ → Bounds → List ℕ
bound_line front n b =
    if b.min == b.max then []
    else line (front ++ decimal n ∷ codes " OF " ∷ decimal b.min ∷ codes ":"
    ∷ decimal b.max ∷ [])

-- ---- delays of drivers

abbrev pub form_delay : Form → List ℕ → ℕ × ℕ → Bounds → List ℕ
form_delay Gate name pick b =
    bound_line (codes "  DELAY " ∷ name ∷ codes " " ∷ []) pick.0 b
form_delay Change name pick b = []
form_delay (Register forced) name pick b =
    bound_line (codes "  DELAY " ∷ name ∷ codes " " ∷ []) pick.0 b
form_delay (Enabled forced) name pick b =
    bound_line (codes "  DELAY " ∷ name ∷ codes " " ∷ []) pick.0 b
form_delay (Checker check) name pick b = []

abbrev pub delay_lines : Instance → Option Split → List ℕ → ℕ × ℕ → List ℕ
delay_lines j None name pick = form_delay (form_of j.kind) name pick j.delay
delay_lines j (Some s) name pick =
    bound_line (codes "  DELAY " ∷ name ∷ codes " RISE " ∷ []) pick.0 s.rise
    ++ bound_line (codes "  DELAY " ∷ name ∷ codes " FALL " ∷ []) pick.1 s.fall

-- the instance drives a net of a set
abbrev pub is_driver : (ℕ → Bool) → Option Target → Bool
is_driver cone (Some (OnNet i)) = cone i
is_driver cone out = false

abbrev pub delay_at : Circuit → Trace → (ℕ → Bool) → ℕ → Option Instance → List ℕ
delay_at c trace cone k None = []
delay_at c trace cone k (Some j) =
    if is_driver cone j.out
    then delay_lines j (two_delays j.kind j.split) (instance_text c k) (pick_at trace k)
    else []

abbrev pub delay_of : Circuit → Trace → (ℕ → Bool) → ℕ → List ℕ
delay_of c trace cone k = delay_at c trace cone k (slice_get c.instances k)

-- of each driver of the cone, in the order of expansion
abbrev pub delays_text : Circuit → Trace → (ℕ → Bool) → List ℕ
delays_text c trace cone =
    flat_map (delay_of c trace cone) (range_with_len 0 (length c.instances))

-- ---- delays of wires

abbrev pub wire_line : Circuit → ℕ → ℕ → Target → ℕ → List ℕ
wire_line c k place (OnNet i) wire =
    bound_line (codes "  WIRE " ∷ instance_text c k ∷ codes " PIN " ∷ decimal place ∷ codes " " ∷ [])
    wire (wire_at c.nets i)
wire_line c k place (Constant b) wire = []

-- of the pins from a place on
abbrev pub wire_lines : Circuit → ℕ → ℕ → List Pin → List ℕ → List ℕ
wire_lines c k place [] wires = []
wire_lines c k place (p ∷ ps) [] = []
wire_lines c k place (p ∷ ps) (w ∷ ws) =
    wire_line c k place p.target w ++ wire_lines c k (place + 1) ps ws

abbrev pub is_own : Option ℕ → ℕ → Bool
is_own None k = false
is_own (Some own) k = own == k

abbrev pub wires_of : Circuit → Trace → (ℕ → Bool) → Option ℕ → ℕ → Option Instance → List ℕ
wires_of c trace cone own k None = []
wires_of c trace cone own k (Some j) =
    if is_driver cone j.out || is_own own k then wire_lines c k 0 j.pins (wires_at trace k) else []

abbrev pub wires_of_number : Circuit → Trace → (ℕ → Bool) → Option ℕ → ℕ → List ℕ
wires_of_number c trace cone own k = wires_of c trace cone own k (slice_get c.instances k)

-- to each pin of these drivers and of the constraint's own instance
abbrev pub wires_text : Circuit → Trace → (ℕ → Bool) → Option ℕ → List ℕ
wires_text c trace cone own =
    flat_map (wires_of_number c trace cone own) (range_with_len 0 (length c.instances))

-- ---- offsets of clocks

abbrev pub same_bit : Bool → Bool → Bool
same_bit a b = if a then b else not b

-- the bit of the row at a tick is that of the ideal clock, so much later than its earliest
abbrev pub is_shifted_at : Header → ClockSpec → ℕ → List Bool → ℕ → ℕ → Bool
is_shifted_at h clock early row by t =
    same_bit (slice_index_or row t false) (ideal clock h (back (period h) (t + early) by))

-- the row is so for so many ticks
abbrev pub is_shifted : Header → ClockSpec → ℕ → ℕ → List Bool → ℕ → Bool
is_shifted h clock early ticks row by =
    list_all (is_shifted_at h clock early row by) (range_with_len 0 ticks)

-- the first of so many numbers, from one on, of which something holds
abbrev pub first_from : (ℕ → Bool) → ℕ → ℕ → Option ℕ
first_from holds a zero = None
first_from holds a (suc n) = if holds a then Some a else first_from holds (a + 1) n

-- the least number by which the row is so, if there is one
abbrev pub offset_of : Header → ClockSpec → ℕ × ℕ → ℕ → List Bool → Option ℕ
offset_of h clock skew ticks row =
    first_from (is_shifted h clock skew.0 ticks row) 0 (skew.0 + skew.1 + 1)

abbrev pub sign_text : Bool → List ℕ
sign_text negative = if negative then codes "-" else []

abbrev pub distance : ℕ → ℕ → ℕ
distance a b = if nat_lt a b then b - a else a - b

-- so much later than the earliest, as an offset from the ideal clock
abbrev pub offset_line : Circuit → ℕ → ℕ × ℕ → Option ℕ → List ℕ
offset_line c i skew None = []
offset_line c i skew (Some by) =
    if skew.0 + skew.1 == 0 then []
    else line (codes "  OFFSET " ∷ net_text c i ∷ codes " " ∷ sign_text (nat_lt by skew.0)
    ∷ decimal (distance by skew.0) ∷ codes " OF " ∷ sign_text (nat_lt 0 skew.0)
    ∷ decimal skew.0 ∷ codes ":" ∷ decimal skew.1 ∷ [])

abbrev pub offset_by : Circuit → Trace → ℕ → AssertSpec → List ℕ
offset_by c trace i (Precision clock) =
    offset_line c i (skew_of clock c.header.pskew)
    (offset_of c.header clock (skew_of clock c.header.pskew) trace.ticks (row_at trace i))
offset_by c trace i spec = []

abbrev pub offset_at : Circuit → Trace → (ℕ → Bool) → ℕ → Option Net → List ℕ
offset_at c trace cone i None = []
offset_at c trace cone i (Some n) =
    if cone i && is_none n.driver then offset_by c trace i n.spec else []

abbrev pub offset_of_net : Circuit → Trace → (ℕ → Bool) → ℕ → List ℕ
offset_of_net c trace cone i = offset_at c trace cone i (slice_get c.nets i)

-- of each `.P` net of the cone that nothing drives, in the order of names
abbrev pub offsets_text : Circuit → Trace → (ℕ → Bool) → List ℕ
offsets_text c trace cone = flat_map (offset_of_net c trace cone) c.order

-- ---- constant inputs

abbrev pub is_constant_by : Bool → AssertSpec → Bool
is_constant_by set Unasserted = true
is_constant_by set (Stable []) = true
is_constant_by set (Stable (s ∷ ss)) = set
is_constant_by set (Precision clock) = false
is_constant_by set (Clock clock) = false

abbrev pub input_at : Circuit → List CaseValue → Trace → (ℕ → Bool) → ℕ → Option Net → List ℕ
input_at c values trace cone i None = []
input_at c values trace cone i (Some n) =
    if cone i && (is_none n.driver && is_constant_by (is_set values i) n.spec)
    then line (codes "  INPUT " ∷ net_text c i ∷ codes " = "
    ∷ (if slice_index_or (row_at trace i) 0 false then codes "1" else codes "0") ∷ [])
    else []

abbrev pub input_of_net : Circuit → List CaseValue → Trace → (ℕ → Bool) → ℕ → List ℕ
input_of_net c values trace cone i = input_at c values trace cone i (slice_get c.nets i)

abbrev pub inputs_text : Circuit → List CaseValue → Trace → (ℕ → Bool) → List ℕ
inputs_text c values trace cone = flat_map (input_of_net c values trace cone) c.order

-- ---- steps

abbrev pub step_word : Bool → List ℕ
step_word one = if one then codes " RISES AT " else codes " FALLS AT "

abbrev pub step_line : Circuit → Trace → ℕ → ℕ → List ℕ
step_line c trace t i =
    let before = slice_index_or (row_at trace i) (t - 1) false in
    let after = slice_index_or (row_at trace i) t false in
    if same_bit before after then []
    else line (codes "  NET " ∷ net_text c i ∷ step_word after ∷ decimal t ∷ [])

abbrev pub step_of_net : Circuit → Trace → (ℕ → Bool) → ℕ → ℕ → List ℕ
step_of_net c trace cone t i = if cone i then step_line c trace t i else []

-- the steps of the nets of the cone at a tick, in the order of names
abbrev pub tick_text : Circuit → Trace → (ℕ → Bool) → ℕ → List ℕ
tick_text c trace cone t = flat_map (step_of_net c trace cone t) c.order

-- in the period that ends with the last tick
abbrev pub steps_text : Circuit → Trace → (ℕ → Bool) → ℕ → List ℕ
steps_text c trace cone last =
    let first = max 1 (last + 1 - period c.header) in
    flat_map (tick_text c trace cone) (range_with_len first (last + 1 - first))
