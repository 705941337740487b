-- The circuit that a narrowing makes of another, and its one case.
use Rattle.std.specs.Prelude.{ℕ, ◌+◌, ◌-◌, ◌*◌, ◌%◌, ◌==◌, ◌++◌, if◌then◌else◌, List, [], ◌∷◌, map, Option, Some, None}
use Rattle.scald_base.specs.Clock.{back}
use Rattle.scald_base.specs.Time.{Bounds, Header, period}
use Rattle.scald_base.specs.declared.assertion.AssertSpec.{AssertSpec}
use Rattle.scald_base.specs.declared.assertion.AssertSpec.TheVariants.{None as Unasserted, Precision, Clock, Stable}
use Rattle.scald_base.specs.declared.assertion.ClockSpec.{ClockSpec}
use Rattle.scald_base.specs.declared.assertion.Span.{Span}
use Rattle.flat_circuit.specs.declared.case.CaseValue.{CaseValue}
use Rattle.flat_circuit.specs.declared.instance.Instance.{Instance}
use Rattle.flat_circuit.specs.declared.net.Net.{Net}
use Rattle.flat_circuit.specs.declared.split.Split.{Split}
use Rattle.flat_circuit.specs.Split.{either_delay}
use Rattle.flat_circuit.specs.Circuit.{Circuit}
use Rattle.narrowing.specs.declared.part.Part.{Part}
use Rattle.narrowing.specs.declared.part.Part.TheVariants.{Constant, Delay, Offset, Rise, Fall}
use Rattle.narrowing.specs.Part.{between, skew_in}

-- ---- one instance

-- two delays, and the bounds that span both
abbrev pub with_split : Instance → Split → Instance
with_split j s = record j { delay = either_delay s; split = Some s }

abbrev pub with_rise : Instance → Option Split → Bounds → Instance
with_rise j None rise = j
with_rise j (Some s) rise = with_split j (record { rise = rise; fall = s.fall })

abbrev pub with_fall : Instance → Option Split → Bounds → Instance
with_fall j None fall = j
with_fall j (Some s) fall = with_split j (record { rise = s.rise; fall = fall })

-- instance k, with the bounds of a part that is of a delay of it
abbrev pub by_part : ℕ → Instance → Part → Instance
by_part k j (Constant net one) = j
by_part k j (Delay i least greatest) =
    if i == k then record j { delay = between least greatest } else j
by_part k j (Rise i least greatest) =
    if i == k then with_rise j j.split (between least greatest) else j
by_part k j (Fall i least greatest) =
    if i == k then with_fall j j.split (between least greatest) else j
by_part k j (Offset net least greatest) = j

abbrev pub by_parts : ℕ → Instance → List Part → Instance
by_parts k j [] = j
by_parts k j (p ∷ ps) = by_parts k (by_part k j p) ps

-- ---- assertions in units of one tick, so that a clock may be moved by any number of ticks

-- a period of as many units as it has ticks
abbrev pub fine_header : Header → Header
fine_header h = record h { units = period h; ticks = 1 }

abbrev pub fine_span : Header → Span → Span
fine_span h s = record { lo = s.lo * h.ticks; hi = s.hi * h.ticks }

abbrev pub fine_spans : Header → List Span → List Span
fine_spans h spans = map (fine_span h) spans

abbrev pub fine_clock : Header → ClockSpec → ClockSpec
fine_clock h clock = record clock { spans = fine_spans h clock.spans }

abbrev pub fine_spec : Header → AssertSpec → AssertSpec
fine_spec h Unasserted = Unasserted
fine_spec h (Precision clock) = Precision (fine_clock h clock)
fine_spec h (Clock clock) = Clock (fine_clock h clock)
fine_spec h (Stable spans) = Stable (fine_spans h spans)

-- so many ticks later in the period
abbrev pub moved_span : Header → ℕ → Span → Span
moved_span h by s =
    record {
      lo = (s.lo * h.ticks + by) % period h;
      hi = (s.hi * h.ticks + by) % period h;
    }

abbrev pub moved_spans : Header → ℕ → List Span → List Span
moved_spans h by spans = map (moved_span h by) spans

-- By how much of a period a clock is behind the ideal one that comes so much later than at its
-- earliest.
abbrev pub lag : Header → ClockSpec → ℕ → ℕ
lag h clock by = back (period h) by (skew_in h clock).0

-- the clock that comes within bounds: it is moved by the lesser one, and has the rest as its skew
abbrev pub moved_clock : Header → ClockSpec → Bounds → ClockSpec
moved_clock h clock b =
    record clock {
      spans = moved_spans h (lag h clock b.min) clock.spans;
      skew = Some (0, b.max - b.min);
    }

abbrev pub moved_spec : Header → Bounds → AssertSpec → AssertSpec
moved_spec h b Unasserted = Unasserted
moved_spec h b (Precision clock) = Precision (moved_clock h clock b)
moved_spec h b (Clock clock) = Clock (fine_clock h clock)
moved_spec h b (Stable spans) = Stable (fine_spans h spans)

abbrev pub narrowed_spec : Header → Option Bounds → AssertSpec → AssertSpec
narrowed_spec h None spec = fine_spec h spec
narrowed_spec h (Some b) spec = moved_spec h b spec

-- ---- nets

-- the bounds that parts give the offset of a net
abbrev pub offset_in : ℕ → List Part → Option Bounds
offset_in i [] = None
offset_in i (Constant net one ∷ ps) = offset_in i ps
offset_in i (Delay k least greatest ∷ ps) = offset_in i ps
offset_in i (Rise k least greatest ∷ ps) = offset_in i ps
offset_in i (Fall k least greatest ∷ ps) = offset_in i ps
offset_in i (Offset net least greatest ∷ ps) =
    if net == i then Some (between least greatest) else offset_in i ps

-- a net that something drives has no offset
abbrev pub if_undriven : Option ℕ → Option Bounds → Option Bounds
if_undriven None found = found
if_undriven (Some driver) found = None

abbrev pub narrowed_net : Header → List Part → ℕ → Net → Net
narrowed_net h parts i n =
    record n { spec = narrowed_spec h (if_undriven n.driver (offset_in i parts)) n.spec }

-- nets whose numbers count from one on
abbrev pub narrowed_nets : Header → List Part → ℕ → List Net → List Net
narrowed_nets h parts i [] = []
narrowed_nets h parts i (n ∷ ns) =
    narrowed_net h parts i n ∷ narrowed_nets h parts (i + 1) ns

-- ---- the circuit

-- instances whose numbers count from one on
abbrev pub narrowed_from : List Part → ℕ → List Instance → List Instance
narrowed_from parts k [] = []
narrowed_from parts k (j ∷ js) = by_parts k j parts ∷ narrowed_from parts (k + 1) js

-- the circuit with the bounds of the parts in place of its own, and its period in units of one tick
abbrev pub narrowed : Circuit → List Part → Circuit
narrowed c parts =
    record c {
      header = fine_header c.header;
      nets = narrowed_nets c.header parts 0 c.nets;
      instances = narrowed_from parts 0 c.instances;
    }

-- ---- its case

abbrev pub constants : List Part → List CaseValue
constants [] = []
constants (Constant net one ∷ ps) = record { net = net; one = one } ∷ constants ps
constants (Delay k least greatest ∷ ps) = constants ps
constants (Rise k least greatest ∷ ps) = constants ps
constants (Fall k least greatest ∷ ps) = constants ps
constants (Offset net least greatest ∷ ps) = constants ps

-- the nets of the case, and those that are narrowed to a bit
abbrev pub narrowed_values : List CaseValue → List Part → List CaseValue
narrowed_values values parts = values ++ constants parts

-- as the only case, or no case if no net is set
abbrev pub only_case : List CaseValue → List (List CaseValue)
only_case [] = []
only_case (v ∷ vs) = (v ∷ vs) ∷ []

abbrev pub narrowed_cases : List CaseValue → List Part → List (List CaseValue)
narrowed_cases values parts = only_case (narrowed_values values parts)
