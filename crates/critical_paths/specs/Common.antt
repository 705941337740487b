-- What two paths count twice: delays that are one number in a run, of which the late path takes the
-- most and the early one the least.
use Rattle.std.specs.Prelude.{ℕ, ◌+◌, ◌-◌, ◌==◌, nat_lt, Bool, true, false, not, ◌&&◌, List, [], ◌∷◌, ◌++◌, filter, slice_get, if◌then◌else◌, Option, Some, None}
use Rattle.std.specs.List.{flat_map, list_any, sum_by}
use Rattle.scald_base.specs.declared.assertion.AssertSpec.{AssertSpec}
use Rattle.scald_base.specs.declared.assertion.AssertSpec.TheVariants.{None as Unasserted, Precision, Clock, Stable}
use Rattle.scald_base.specs.Fitting.{skew_of}
use Rattle.scald_base.specs.Time.{Bounds, Header}
use Rattle.element_kinds.specs.Kinds.{is_change}
use Rattle.flat_circuit.specs.declared.instance.Pin.{Pin}
use Rattle.flat_circuit.specs.declared.instance.Instance.{Instance}
use Rattle.flat_circuit.specs.declared.net.Net.{Net}
use Rattle.flat_circuit.specs.declared.split.Split.{Split}
use Rattle.flat_circuit.specs.Circuit.{Circuit, driver_at}
use Rattle.flat_circuit.specs.Split.{two_delays}
use Rattle.fixpoint_engine.specs.Waves.{target_wire}
use Rattle.critical_paths.specs.declared.common.Counted.{Counted}
use Rattle.critical_paths.specs.declared.common.Part.{Part}
use Rattle.critical_paths.specs.declared.common.Part.TheVariants.{Delay, RiseOf, FallOf, Wire, Offset}
use Rattle.critical_paths.specs.declared.direction.Direction.{Direction}
use Rattle.critical_paths.specs.declared.direction.Direction.TheVariants.{Rise, Fall, Change}
use Rattle.critical_paths.specs.Event.{Event, turned}
use Rattle.critical_paths.specs.declared.path.Word.{Word}
use Rattle.critical_paths.specs.declared.path.Word.TheVariants.{Tight, Bounded, Loose, Inside, Same}
use Rattle.critical_paths.specs.declared.path.Passage.{Passage}
use Rattle.critical_paths.specs.declared.path.Passage.TheVariants.{Through, Cut}
use Rattle.critical_paths.specs.declared.event.Stop.{Stop}
use Rattle.critical_paths.specs.declared.path.Node.{Node}
use Rattle.critical_paths.specs.Path.{Link, End, Source, Loop, Nothing, Path}
use Rattle.critical_paths.specs.Walk.{link}

abbrev pub spread : Bounds → ℕ
spread d = d.max - d.min

abbrev pub same_part : Part → Part → Bool
same_part (Delay k) (Delay l) = k == l
same_part (RiseOf k) (RiseOf l) = k == l
same_part (FallOf k) (FallOf l) = k == l
same_part (Wire k i) (Wire l j) = (k == l) && (i == j)
same_part (Offset i) (Offset j) = i == j
same_part a b = false

-- ---- the parts of a path

-- A delay of a change function may be another at each change, and is none.
abbrev pub one_delay : ℕ → Instance → List Counted
one_delay k j =
    if is_change j.kind then [] else record { part = Delay k; amount = spread j.delay } ∷ []

-- of two delays the one of the step's direction
abbrev pub of_two_delays : ℕ → Split → Direction → List Counted
of_two_delays k s Rise = record { part = RiseOf k; amount = spread s.rise } ∷ []
of_two_delays k s Fall = record { part = FallOf k; amount = spread s.fall } ∷ []
of_two_delays k s Change = []

abbrev pub delay_parts : ℕ → Instance → Direction → Option Split → List Counted
delay_parts k j own None = one_delay k j
delay_parts k j own (Some s) = of_two_delays k s own

abbrev pub wire_parts : Circuit → ℕ → ℕ → Option Pin → List Counted
wire_parts c k i None = []
wire_parts c k i (Some pin) =
    record { part = Wire k i; amount = spread (target_wire c.nets pin.target) } ∷ []

abbrev pub through_parts : Circuit → Event → ℕ → ℕ → Option Instance → List Counted
through_parts c e k i None = []
through_parts c e k i (Some j) =
    delay_parts k j (turned j.out_inverted e.direction) (two_delays j.kind j.split) ++ wire_parts c
    k i (slice_get j.pins i)

abbrev pub driver_parts : Circuit → Event → ℕ → Option ℕ → List Counted
driver_parts c e i None = []
driver_parts c e i (Some k) = through_parts c e k i (slice_get c.instances k)

-- a delay within its bounds is none
abbrev pub is_at_bounds : Word → Bool
is_at_bounds Tight = true
is_at_bounds (Bounded other) = true
is_at_bounds Loose = true
is_at_bounds Inside = false
is_at_bounds Same = true

abbrev pub passage_parts : Circuit → Event → Passage → List Counted
passage_parts c e (Through pin wire delay word) =
    if is_at_bounds word then driver_parts c e pin (driver_at c.nets e.net) else []
passage_parts c e (Cut ticks) = []

abbrev pub link_parts : Circuit → Link → List Counted
link_parts c link = passage_parts c link.event link.passage

-- A `.P` clock comes early or late as a whole; each edge of a `.C` clock does by itself.
abbrev pub offset_parts : Header → ℕ → AssertSpec → List Counted
offset_parts h i Unasserted = []
offset_parts h i (Precision c) =
    record { part = Offset i; amount = (skew_of c h.pskew).0 + (skew_of c h.pskew).1 } ∷ []
offset_parts h i (Clock c) = []
offset_parts h i (Stable spans) = []

abbrev pub net_parts : Circuit → ℕ → Option Net → List Counted
net_parts c i None = []
net_parts c i (Some net) = offset_parts c.header i net.spec

abbrev pub source_parts : Circuit → ℕ → End → List Counted
source_parts c net Source = net_parts c net (slice_get c.nets net)
source_parts c net Loop = []
source_parts c net Nothing = []

abbrev pub parts : Circuit → Path → List Counted
parts c path = flat_map (link_parts c) path.links ++ source_parts c path.last.net path.end

-- ---- by the nodes of a path

abbrev pub step_parts : Circuit → Stop → Option Passage → List Counted
step_parts c s None = []
step_parts c s (Some passage) = link_parts c (link s passage)

-- a node's: of the last one those of its net, of any other those of what it comes by
abbrev pub node_parts : Circuit → End → Node → Bool → List Counted
node_parts c end n is_last =
    if is_last then source_parts c n.stop.net end else step_parts c n.stop n.passage

-- ---- those of both

abbrev pub is_part_of : List Counted → Part → Bool
is_part_of counted part = list_any (λ (x : Counted). same_part x.part part) counted

-- each once, the first time
abbrev pub once_from : List Counted → List Counted → List Counted
once_from seen [] = []
once_from seen (x ∷ xs) =
    if is_part_of seen x.part then once_from seen xs else x ∷ once_from (x ∷ seen) xs

-- what stands in both lists and is not one number only, in the order of the first
abbrev pub of_both : List Counted → List Counted → List Counted
of_both one other =
    filter (λ (x : Counted). nat_lt 0 x.amount && is_part_of other x.part) (once_from [] one)

-- the same of one part, if these came before it
abbrev pub is_twice : List Counted → List Counted → Counted → Bool
is_twice seen other x =
    not (is_part_of seen x.part) && (nat_lt 0 x.amount && is_part_of other x.part)

-- what stands on both paths
abbrev pub counted_twice : Circuit → Path → Path → List Counted
counted_twice c one other = of_both (parts c one) (parts c other)

abbrev pub credit : List Counted → ℕ
credit counted = sum_by (λ (x : Counted). x.amount) counted

abbrev pub counted_twice_known : Circuit → Option Path → Option Path → Option (List Counted)
counted_twice_known c None other = None
counted_twice_known c (Some one) None = None
counted_twice_known c (Some one) (Some other) = Some (counted_twice c one other)
