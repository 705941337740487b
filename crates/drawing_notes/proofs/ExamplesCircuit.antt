-- Notes that the circuit alone tells, worked out on paper: each kind where it comes and where it just does not.
use Rattle.std.specs.Prelude.{◌≡◌, ℕ, ◌==◌, nat_lt, Bool, true, false, ◌&&◌, List, [], ◌∷◌, codes, if◌then◌else◌, Option, Some, None}
use Rattle.std.specs.Fmt.{digits}
use Rattle.std.proofs.Common.{refl}
use Rattle.scald_base.specs.declared.assertion.AssertSpec.{AssertSpec}
use Rattle.scald_base.specs.declared.assertion.AssertSpec.TheVariants.{None as Unasserted, Stable}
use Rattle.vector_names.specs.declared.bits.Target.TheVariants.{Net as OnNet, Constant}
use Rattle.element_kinds.specs.declared.kind.Kind.{Kind}
use Rattle.element_kinds.specs.declared.kind.Kind.TheVariants.{And, Buf, Chg, Reg, RegRs, Latch, LatchRs, SetupHold, RiseFall, MinPulse}
use Rattle.flat_circuit.specs.declared.instance.Pin.{Pin}
use Rattle.flat_circuit.specs.declared.instance.Instance.{Instance}
use Rattle.flat_circuit.specs.declared.limits.Limits.TheVariants.{None as Unlimited, Edges, Pulses}
use Rattle.flat_circuit.specs.declared.limits.Limits.{Limits}
use Rattle.flat_circuit.specs.declared.net.Net.{Net}
use Rattle.flat_circuit.specs.Circuit.{Circuit}
use Rattle.flat_circuit.proofs.RunTables.{limits_of}
use Rattle.drawing_omissions.proofs.ExamplesParts.{header, on, turned, high, instance}
use Rattle.drawing_notes.specs.declared.launched.Arrival.{Arrival}
use Rattle.drawing_notes.specs.Pins.{has_clock, target_text}
use Rattle.drawing_notes.specs.Idle.{idle, idle_line}
use Rattle.drawing_notes.specs.Unchecked.{unchecked, unchecked_line}
use Rattle.drawing_notes.specs.Unread.{unread, unread_line}
use Rattle.drawing_notes.specs.Loops.{loops, loop_line}
use Rattle.drawing_notes.specs.Late.{late, late_line}

-- ---- circuits over a period of eight ticks

abbrev pub net : List ℕ → AssertSpec → ℕ → Option ℕ → Net
net name spec wire driver = record { name = name; bit = 0; spec = spec; wire = record { min = 0; max = wire }; driver = driver }

-- a buffer of this net, with a rise delay of 4 ticks at most, a fall delay of 5, and a complement at its output
abbrev pub split_inverter : Pin → ℕ → Instance
split_inverter pin out = record {
  path = codes "b1";
  bit = 0;
  kind = Buf;
  delay = record { min = 1; max = 5 };
  split = Some (record { rise = record { min = 1; max = 4 }; fall = record { min = 1; max = 5 } });
  limits = Unlimited;
  pins = pin ∷ [];
  out = Some (OnNet out);
  out_inverted = true;
  place = record { line = 4; col = 1 };
}

abbrev pub three : List Instance → Option ℕ → Option ℕ → Option ℕ → Circuit
three js a b c = record {
  header = header;
  nets = net (codes "A") Unasserted 2 a ∷ net (codes "B") Unasserted 2 b ∷ net (codes "C") (Stable []) 7 c ∷ [];
  instances = js;
  order = 0 ∷ 1 ∷ 2 ∷ [];
}

-- a buffer from C to each of two nets, whose names are in another order than their numbers
abbrev two_outputs : Circuit
two_outputs = record {
  header = header;
  nets = net (codes "B") Unasserted 2 (Some 0) ∷ net (codes "A") Unasserted 2 (Some 1) ∷ net (codes "C") (Stable []) 7 None ∷ [];
  instances = instance (codes "b1") Buf Unlimited (on 2 ∷ []) (Some 0) ∷ instance (codes "b2") Buf Unlimited (on 2 ∷ []) (Some 1) ∷ [];
  order = 1 ∷ 0 ∷ 2 ∷ [];
}

-- ---- pins

storage_and_checkers_of_points : (has_clock Reg ≡ true) × (has_clock Latch ≡ true) × (has_clock SetupHold ≡ true)
    × (has_clock RiseFall ≡ true) × (has_clock MinPulse ≡ false) × (has_clock Buf ≡ false) × (has_clock Chg ≡ false)
storage_and_checkers_of_points = (refl, refl, refl, refl, refl, refl, refl)

nets_and_constants : (target_text two_outputs (OnNet 1) ≡ codes "A<0>") × (target_text two_outputs (Constant true) ≡ codes "ONE")
    × (target_text two_outputs (Constant false) ≡ codes "ZERO")
unfolding digits
nets_and_constants = (refl, refl, refl)

-- ---- IDLE

abbrev checker : Kind → Limits → Circuit
checker kind limits = three (instance (codes "c1") kind limits (on 0 ∷ on 1 ∷ []) None ∷ []) None None None

asks_nothing : idle (checker SetupHold (Edges 0 0)) ≡ codes "NOTE IDLE c1<0>\n" ∷ []
unfolding digits idle_line
asks_nothing = refl

asks_for_a_tick : (idle (checker SetupHold (Edges 0 1)) ≡ []) × (idle (checker SetupHold (Edges 1 0)) ≡ [])
asks_for_a_tick = (refl, refl)

from_rise_to_fall : idle (checker RiseFall (Edges 0 0)) ≡ []
from_rise_to_fall = refl

any_width : idle (checker MinPulse (Pulses 1 1)) ≡ codes "NOTE IDLE c1<0>\n" ∷ []
unfolding digits idle_line
any_width = refl

no_checker : idle two_outputs ≡ []
no_checker = refl

two_ticks : (idle (checker MinPulse (Pulses 2 1)) ≡ []) × (idle (checker MinPulse (Pulses 0 2)) ≡ [])
two_ticks = (refl, refl)

-- ---- UNCHECKED: a register on clock A with input B, and a checker

abbrev register : Pin → Pin → Instance
register clock input = instance (codes "r1") Reg Unlimited (clock ∷ input ∷ []) (Some 2)

abbrev beside : Instance → Kind → Pin → Pin → Circuit
beside r kind clock input = three (r ∷ instance (codes "c1") kind (limits_of kind 1) (clock ∷ input ∷ []) None ∷ []) None None (Some 0)

with_its_clock : (unchecked (beside (register (on 0) (on 1)) SetupHold (on 0) (on 1)) ≡ [])
    × (unchecked (beside (register (on 0) (on 1)) RiseFall (on 0) (turned 1)) ≡ [])
    × (unchecked (beside (register (turned 0) (on 1)) SetupHold (turned 0) (on 1)) ≡ [])
with_its_clock = (refl, refl, refl)

abbrev of_b : List (List ℕ)
of_b = codes "NOTE UNCHECKED r1<0> B<0>\n" ∷ []

with_another : (unchecked (beside (register (on 0) (on 1)) SetupHold (turned 0) (on 1)) ≡ of_b)
    × (unchecked (beside (register (on 0) (on 1)) SetupHold (on 1) (on 1)) ≡ of_b)
    × (unchecked (beside (register (on 0) (on 1)) SetupHold (on 0) (on 0)) ≡ of_b)
    × (unchecked (beside (register (on 0) (on 1)) MinPulse (on 0) (on 1)) ≡ of_b)
    × (unchecked (beside (register high (on 1)) SetupHold high (on 1)) ≡ of_b)
    × (unchecked (beside (register (on 0) (on 1)) RiseFall (turned 0) (on 1)) ≡ of_b)
unfolding digits unchecked_line
with_another = (refl, refl, refl, refl, refl, refl)

-- a latch closes at the other edge
abbrev latch : Pin → Pin → Instance
latch enable input = instance (codes "r1") Latch Unlimited (enable ∷ input ∷ []) (Some 2)

where_it_closes : (unchecked (beside (latch (on 0) (on 1)) SetupHold (turned 0) (on 1)) ≡ [])
    × (unchecked (beside (latch (turned 0) (on 1)) SetupHold (on 0) (on 1)) ≡ [])
where_it_closes = (refl, refl)

from_edge_to_edge : (unchecked (beside (latch (on 0) (on 1)) RiseFall (on 0) (on 1)) ≡ [])
    × (unchecked (beside (latch (on 0) (on 1)) RiseFall (turned 0) (turned 1)) ≡ [])
from_edge_to_edge = (refl, refl)

where_it_opens : (unchecked (beside (latch (on 0) (on 1)) SetupHold (on 0) (on 1)) ≡ of_b)
    × (unchecked (beside (latch (turned 0) (on 1)) SetupHold (turned 0) (on 1)) ≡ of_b)
unfolding digits unchecked_line
where_it_opens = (refl, refl)

of_another_enable : (unchecked (beside (latch (on 0) (on 1)) SetupHold (turned 1) (on 1)) ≡ of_b)
    × (unchecked (beside (latch (on 0) (on 1)) SetupHold (turned 0) (on 0)) ≡ of_b)
    × (unchecked (beside (latch (on 0) (on 1)) RiseFall (on 1) (on 1)) ≡ of_b)
unfolding digits unchecked_line
of_another_enable = (refl, refl, refl)

-- the same with set and reset
abbrev forced : Kind → Instance
forced kind = instance (codes "r1") kind Unlimited (on 0 ∷ on 1 ∷ high ∷ high ∷ []) (Some 2)

with_set_and_reset : (unchecked (beside (forced RegRs) SetupHold (on 0) (on 1)) ≡ [])
    × (unchecked (beside (forced RegRs) SetupHold (turned 0) (on 1)) ≡ of_b)
    × (unchecked (beside (forced LatchRs) SetupHold (on 0) (on 1)) ≡ of_b)
    × (unchecked (beside (forced LatchRs) SetupHold (turned 0) (on 1)) ≡ [])
unfolding digits unchecked_line
with_set_and_reset = (refl, refl, refl, refl)

of_a_constant : unchecked (beside (register (on 0) high) SetupHold (on 0) (on 1)) ≡ []
of_a_constant = refl

-- ---- UNREAD: a buffer from A to B, and whatever reads B

abbrev buffer : List Instance → Circuit
buffer js = three (instance (codes "b1") Buf Unlimited (on 0 ∷ []) (Some 1) ∷ js) None (Some 0) None

read_by_nobody : unread (buffer []) ≡ codes "NOTE UNREAD B<0>\n" ∷ []
unfolding digits unread_line
read_by_nobody = refl

read_by_one : (unread (buffer (instance (codes "r1") Reg Unlimited (on 0 ∷ on 1 ∷ []) (Some 2) ∷ [])) ≡ [])
    × (unread (buffer (instance (codes "w1") MinPulse (Pulses 1 1) (on 1 ∷ []) None ∷ [])) ≡ [])
read_by_one = (refl, refl)

read_by_a_complement : unread (buffer (instance (codes "w1") MinPulse (Pulses 1 1) (turned 1 ∷ []) None ∷ [])) ≡ []
read_by_a_complement = refl

by_their_names : unread two_outputs ≡ codes "NOTE UNREAD A<0>\n" ∷ codes "NOTE UNREAD B<0>\n" ∷ []
unfolding digits unread_line
by_their_names = refl

-- C asserts that it is stable, and A is not driven
asserts_or_is_none : unread (three (instance (codes "b1") Buf Unlimited (on 0 ∷ []) (Some 2) ∷ []) None None (Some 0)) ≡ []
asserts_or_is_none = refl

-- ---- LOOP, by which nets are on one loop

abbrev first_two : ℕ → ℕ → Bool
first_two i j = nat_lt i 2 && nat_lt j 2

abbrev none_together : ℕ → ℕ → Bool
none_together i j = false

one_loop : loops (buffer []) first_two ≡ codes "NOTE LOOP A<0> NETS 2\n" ∷ []
unfolding digits loop_line
one_loop = refl

no_loop : loops (buffer []) none_together ≡ []
no_loop = refl

-- by its first net in the order of names
first_by_name : loops two_outputs first_two ≡ codes "NOTE LOOP A<0> NETS 2\n" ∷ []
unfolding digits loop_line
first_by_name = refl

abbrev each_by_itself : ℕ → ℕ → Bool
each_by_itself i j = first_two i j && (i == j)

two_loops : loops two_outputs each_by_itself ≡ codes "NOTE LOOP A<0> NETS 1\n" ∷ codes "NOTE LOOP B<0> NETS 1\n" ∷ []
unfolding digits loop_line
two_loops = refl

-- ---- LATE: what comes at B after some ticks, its wire of two, and a period of eight

abbrev after : ℕ → ℕ → Option Arrival
after ticks net = if net == 1 then Some (record { ticks = ticks; storage = 0 }) else None

abbrev launched : Circuit
launched = three (instance (codes "r1") Reg Unlimited (on 0 ∷ high ∷ []) (Some 1) ∷ instance (codes "w1") MinPulse (Pulses 1 1) (on 1 ∷ []) None ∷ []) None (Some 0) None

one_tick_late : late launched (after 7) ≡ codes "NOTE LATE w1<0> PIN 0 B<0> TICKS 9 FROM r1<0>\n" ∷ []
unfolding digits late_line
one_tick_late = refl

just_in_time : late launched (after 6) ≡ []
just_in_time = refl

-- at the second pin of what the register drives: storage, or a gate that passes it on
abbrev beyond : Kind → Circuit
beyond kind = three (instance (codes "r1") Reg Unlimited (on 0 ∷ high ∷ []) (Some 1) ∷ instance (codes "e2") kind Unlimited (on 0 ∷ on 1 ∷ []) (Some 2) ∷ []) None (Some 0) (Some 1)

ends_at_storage : (late (beyond Reg) (after 7) ≡ codes "NOTE LATE e2<0> PIN 1 B<0> TICKS 9 FROM r1<0>\n" ∷ [])
    × (late (beyond Latch) (after 7) ≡ codes "NOTE LATE e2<0> PIN 1 B<0> TICKS 9 FROM r1<0>\n" ∷ [])
unfolding digits late_line
ends_at_storage = (refl, refl)

passed_on : (late (beyond And) (after 7) ≡ []) × (late (beyond Chg) (after 7) ≡ [])
passed_on = (refl, refl)
