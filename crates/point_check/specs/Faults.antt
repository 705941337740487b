-- The faults that this crate finds in the waves of a circuit's nets, and their order.
use Rattle.std.specs.Prelude.{◌≡◌, ℕ, ◌==◌, Bool, true, false, List, ◌++◌, length, slice_get, filter_map, Option, Some, None}
use Rattle.std.specs.List.{range_with_len}
use Rattle.std.specs.Option.{option_map}
use Rattle.scald_base.specs.Time.{period}
use Rattle.element_kinds.specs.declared.kind.Kind.{Kind}
use Rattle.element_kinds.specs.Kinds.{checks_points, may_be_marked}
use Rattle.flat_circuit.specs.declared.instance.Instance.{Instance}
use Rattle.flat_circuit.specs.declared.limits.Limits.{Limits}
use Rattle.flat_circuit.specs.declared.net.Net.{Net}
use Rattle.flat_circuit.specs.declared.fault.Fault.{Fault}
use Rattle.flat_circuit.specs.declared.fault.Fault.TheVariants.{Point, Width, Hazard, Assertion}
use Rattle.flat_circuit.specs.Circuit.{Circuit}
use Rattle.gate_eval.specs.Instance.{wave_of_pin}
use Rattle.gate_eval.specs.Hold.{hazard}
use Rattle.fixpoint_engine.specs.Waves.{Waves, pin_waves, marked_pin}
use Rattle.point_check.specs.Point.{checker_fault}
use Rattle.point_check.specs.Assertion.{is_held, assertion_fault}

-- ---- instances

-- there is an instance that is a checker which holds an input against the edges of a clock
abbrev pub IsPointChecker : Option Instance → Type 0
IsPointChecker None = ⊥
IsPointChecker (Some j) = checks_points j.kind ≡ true

-- the fault of checker k with these limits, by the waves at its clock and its input
abbrev pub limited_fault : Circuit → Waves → ℕ → Instance → Limits → Option Fault
limited_fault c ws k j limits =
    checker_fault j.kind (period c.header) k (wave_of_pin (pin_waves c ws j) 0)
    (wave_of_pin (pin_waves c ws j) 1) limits

abbrev pub limited_fault_of : Circuit → Waves → ℕ → Limits → Option Instance → Option Fault
limited_fault_of c ws k limits None = None
limited_fault_of c ws k limits (Some j) = limited_fault c ws k j limits

abbrev pub limited_fault_at : Circuit → Waves → ℕ → Limits → Option Fault
limited_fault_at c ws k limits = limited_fault_of c ws k limits (slice_get c.instances k)

abbrev pub hazard_at : ℕ → ℕ × ℕ → Fault
hazard_at k found = Hazard k found.0 found.1

-- the hazard of instance k, if a pin of it is marked
abbrev pub mark_fault : Circuit → Waves → ℕ → Instance → Option Fault
mark_fault c ws k j = option_map (hazard_at k) (hazard j.kind (pin_waves c ws j) (marked_pin j))

-- that of a checker of points, or else that of a kind of which a pin may be marked
abbrev pub fault_by : Bool → Bool → Circuit → Waves → ℕ → Instance → Option Fault
fault_by true markable c ws k j = limited_fault c ws k j j.limits
fault_by false true c ws k j = mark_fault c ws k j
fault_by false false c ws k j = None

abbrev pub fault_by_kind : Kind → Circuit → Waves → ℕ → Instance → Option Fault
fault_by_kind kind c ws k j = fault_by (checks_points kind) (may_be_marked kind) c ws k j

abbrev pub fault_of : Circuit → Waves → ℕ → Option Instance → Option Fault
fault_of c ws k None = None
fault_of c ws k (Some j) = fault_by_kind j.kind c ws k j

-- the fault of the instance of a number, if it has one
unfoldable pub instance_fault : Circuit → Waves → ℕ → Option Fault
instance_fault c ws k = fault_of c ws k (slice_get c.instances k)

-- ---- nets

abbrev pub fault_if_held : Bool → Circuit → Waves → ℕ → Net → Option Fault
fault_if_held false c ws i net = None
fault_if_held true c ws i net = assertion_fault c.header net.spec i (ws i)

abbrev pub fault_of_net : Circuit → Waves → ℕ → Option Net → Option Fault
fault_of_net c ws i None = None
fault_of_net c ws i (Some net) = fault_if_held (is_held net) c ws i net

-- the fault of the net of a number, if it is held and has one
unfoldable pub net_fault : Circuit → Waves → ℕ → Option Fault
net_fault c ws i = fault_of_net c ws i (slice_get c.nets i)

-- ---- all of them: those of instances in the order of expansion, and then those of nets in the
-- order of names

abbrev pub point_faults : Circuit → Waves → List Fault
point_faults c ws =
    filter_map (instance_fault c ws) (range_with_len 0 (length c.instances))
    ++ filter_map (net_fault c ws) c.order

-- ---- whose a fault is

abbrev pub is_of_instance : ℕ → Fault → Bool
is_of_instance k (Point kind instance edge slot value) = instance == k
is_of_instance k (Width instance high start width) = instance == k
is_of_instance k (Hazard instance slot pin) = instance == k
is_of_instance k (Assertion net slot value) = false

abbrev pub is_of_net : ℕ → Fault → Bool
is_of_net i (Point kind instance edge slot value) = false
is_of_net i (Width instance high start width) = false
is_of_net i (Hazard instance slot pin) = false
is_of_net i (Assertion net slot value) = net == i
