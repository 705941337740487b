-- Which nets are due in a round, and what their evaluation changes, worked out on paper.
use Rattle.std.specs.Prelude.{◌≡◌, ℕ, zero, suc, ◌==◌, Bool, true, false, List, [], ◌∷◌, Option, Some, None}
use Rattle.std.proofs.Common.{◌||◌, if◌then◌else◌, refl, arith}
use Rattle.scald_base.specs.declared.assertion.AssertSpec.TheVariants.{None as Unasserted}
use Rattle.vector_names.specs.declared.bits.Target.{Target}
use Rattle.vector_names.specs.declared.bits.Target.TheVariants.{Net as OnNet, Constant}
use Rattle.step_values.specs.declared.value.Value.{Value}
use Rattle.step_values.specs.declared.value.Value.TheVariants.{S, C}
use Rattle.skew_algebra.specs.Wave.{Wave, skewed}
use Rattle.element_kinds.specs.declared.kind.Kind.{Kind}
use Rattle.element_kinds.specs.declared.kind.Kind.TheVariants.{Buf, Reg, RegRs, Latch, Chg}
use Rattle.flat_circuit.specs.declared.instance.Pin.{Pin}
use Rattle.flat_circuit.specs.declared.instance.Instance.{Instance}
use Rattle.flat_circuit.specs.declared.limits.Limits.TheVariants.{None as Unlimited}
use Rattle.flat_circuit.specs.declared.net.Net.{Net}
use Rattle.flat_circuit.specs.Circuit.{Circuit}
use Rattle.fixpoint_engine.specs.Same.{same_wave}
use Rattle.fixpoint_engine.specs.Waves.{Waves}
use Rattle.fixpoint_engine.specs.SameWaves.{IsSameAt}
use Rattle.fixpoint_engine.specs.declared.rounds.EngineEnd.TheVariants.{Unsettled, NoMemory}
use Rattle.fixpoint_engine.specs.Work.{differs, hears_in, is_due, due_count, work_to}
use Rattle.fixpoint_engine.specs.Worklist.{among, changed, output_net, drives_in}
use Rattle.fixpoint_engine.specs.End.{IsFirstIn, EndsFor, EndsAt}

abbrev still : Wave Value
still = skewed (S ∷ S ∷ []) 0

abbrev moving : Wave Value
moving = skewed (S ∷ C ∷ []) 0

-- ---- waves that are one

same_cells_and_skew : same_wave (skewed (S ∷ C ∷ []) 1) (skewed (S ∷ C ∷ []) 1) ≡ true
same_cells_and_skew = refl

another_skew : same_wave (skewed (S ∷ C ∷ []) 1) (skewed (S ∷ C ∷ []) 0) ≡ false
another_skew = refl

another_last_cell : same_wave moving still ≡ false
another_last_cell = refl

another_period : same_wave still (skewed (S ∷ S ∷ S ∷ []) 0) ≡ false
another_period = refl

net_1_differs : differs (λ i. if i == 1 then moving else still) (λ i. still) 1 ≡ true
net_1_differs = refl

net_2_does_not : differs (λ i. if i == 1 then moving else still) (λ i. still) 2 ≡ false
net_2_does_not = refl

-- ---- who listens

abbrev on : Target → Pin
on target = record { target = target; inverted = false; hold = false }

abbrev element : Kind → List Pin → ℕ → Instance
element kind pins out = record {
  path = [];
  bit = 0;
  kind = kind;
  delay = record { min = 1; max = 1 };
  split = None;
  limits = Unlimited;
  pins = pins;
  out = Some (OnNet out);
  out_inverted = false;
  place = record { line = 1; col = 1 };
}

-- an element of a clock on net 0 and an input on net 1
abbrev clocked : Kind → Instance
clocked kind = element kind (on (OnNet 0) ∷ on (OnNet 1) ∷ []) 2

register_hears_its_clock : hears_in (λ i. i == 0) (Some (clocked Reg)) ≡ true
register_hears_its_clock = refl

-- what a register holds may change where its clock may rise, whatever its input
register_hears_no_input : hears_in (λ i. i == 1) (Some (clocked Reg)) ≡ false
register_hears_no_input = refl

latch_hears_its_input : hears_in (λ i. i == 1) (Some (clocked Latch)) ≡ true
latch_hears_its_input = refl

-- set and reset are the pins 2 and 3
abbrev set_and_reset : Instance
set_and_reset = element RegRs (on (OnNet 0) ∷ on (OnNet 1) ∷ on (OnNet 2) ∷ on (OnNet 3) ∷ []) 4

set_is_heard : hears_in (λ i. i == 2) (Some set_and_reset) ≡ true
set_is_heard = refl

reset_is_heard : hears_in (λ i. i == 3) (Some set_and_reset) ≡ true
reset_is_heard = refl

abbrev change : Instance
change = element Chg (on (OnNet 0) ∷ on (OnNet 5) ∷ on (OnNet 7) ∷ []) 2

last_pin_is_heard : hears_in (λ i. i == 7) (Some change) ≡ true
last_pin_is_heard = refl

another_net_is_not : hears_in (λ i. i == 6) (Some change) ≡ false
another_net_is_not = refl

constant_is_not : hears_in (λ i. true) (Some (element Buf (on (Constant true) ∷ []) 2)) ≡ false
constant_is_not = refl

nothing_hears : hears_in (λ i. true) None ≡ false
nothing_hears = refl

-- ---- a chain of two buffers: net 0 is an input, net 1 follows it and net 2 follows net 1

abbrev net : Option ℕ → Net
net driver = record {
  name = [];
  bit = 0;
  spec = Unasserted;
  wire = record { min = 0; max = 0 };
  driver = driver;
}

abbrev chain : Circuit
chain = record {
  header = record {
    units = 2;
    ticks = 1;
    wire = record { min = 0; max = 0 };
    pskew = (0, 0);
    cskew = (0, 0);
  };
  nets = net None ∷ net (Some 0) ∷ net (Some 1) ∷ [];
  instances = element Buf (on (OnNet 0) ∷ []) 1 ∷ element Buf (on (OnNet 1) ∷ []) 2 ∷ [];
  order = [];
}

abbrev outputs : ℕ → Bool
outputs i = (i == 1) || (i == 2)

-- net 1 changes in round 1, and net 2 in round 2
abbrev follow : ℕ → Waves
follow zero i = moving
follow (suc zero) i = if i == 1 then still else moving
follow (suc (suc r)) i = if outputs i then still else moving

none_in_round_0 : is_due chain outputs follow 0 1 ≡ false
unfolding is_due
none_in_round_0 = refl

active_in_round_1 : is_due chain outputs follow 1 2 ≡ true
unfolding is_due
active_in_round_1 = refl

inactive_in_round_1 : is_due chain outputs follow 1 0 ≡ false
unfolding is_due
inactive_in_round_1 = refl

-- its driver listens to net 1
listener_in_round_2 : is_due chain outputs follow 2 2 ≡ true
unfolding is_due
listener_in_round_2 = refl

-- net 0 did not change
no_listener_in_round_2 : is_due chain outputs follow 2 1 ≡ false
unfolding is_due
no_listener_in_round_2 = refl

inactive_listener : is_due chain (λ i. i == 1) follow 2 2 ≡ false
unfolding is_due
inactive_listener = refl

-- nothing listens to net 2
none_in_round_3 : is_due chain outputs follow 3 2 ≡ false
unfolding is_due
none_in_round_3 = refl

two_in_round_1 : due_count chain outputs follow 1 ≡ 2
unfolding is_due
two_in_round_1 = refl

one_in_round_2 : due_count chain outputs follow 2 ≡ 1
unfolding is_due
one_in_round_2 = refl

no_work_in_round_0 : work_to chain outputs follow 0 ≡ 0
unfolding work_to
no_work_in_round_0 = refl

work_of_round_1 : work_to chain outputs follow 1 ≡ 2
unfolding is_due work_to
work_of_round_1 = refl

work_of_three_rounds : work_to chain outputs follow 3 ≡ 3
unfolding is_due work_to
work_of_three_rounds = refl

-- ---- changes

one_of_these : among (4 ∷ 2 ∷ []) 2 ≡ true
one_of_these = refl

of_none_of_these : among (4 ∷ 2 ∷ []) 3 ≡ false
of_none_of_these = refl

-- the later change of a net counts, and a net that is not there changes nothing
changed_twice :
    changed (still ∷ still ∷ []) ((1, still) ∷ (1, moving) ∷ (2, moving) ∷ []) ≡ still ∷ moving ∷ []
changed_twice = refl

drives_its_net : drives_in (Some (OnNet 3)) 3 ≡ true
drives_its_net = refl

drives_no_other : drives_in (Some (OnNet 3)) 2 ≡ false
drives_no_other = refl

constant_drives_none : output_net (Some (Constant true)) ≡ None
constant_drives_none = refl

output_on_net : output_net (Some (OnNet 3)) ≡ Some 3
output_on_net = refl

-- ---- where two rounds have one wave

same_at_net_0 : IsSameAt (follow 0) (follow 1) (on (OnNet 0))
same_at_net_0 = refl

other_at_net_1 : ¬ IsSameAt (follow 0) (follow 1) (on (OnNet 1))
other_at_net_1 same =
    let clash : true ≡ false = (λ t. same_wave moving (same t)) in
    cc

same_at_constant : IsSameAt (follow 0) (follow 1) (on (Constant true))
same_at_constant = tt

-- ---- the first net in the order of names

first_of_two : IsFirstIn (2 ∷ 1 ∷ 0 ∷ []) outputs 0
first_of_two = record { below = omega arith; is = refl; first = λ k before. absurd (omega (arith, before)) }

-- net 2 is of the set too, and stands before
not_the_second : ¬ IsFirstIn (2 ∷ 1 ∷ 0 ∷ []) outputs 1
not_the_second h =
    let clash : true ≡ false = h.first 0 (omega arith) in
    cc

not_outside_of_the_set : ¬ IsFirstIn (0 ∷ 1 ∷ 2 ∷ []) outputs 0
not_outside_of_the_set h =
    let clash : false ≡ true = h.is in
    cc

at_another_round : ¬ EndsAt (2 ∷ []) outputs 7 (Unsettled 0 6)
at_another_round h =
    let clash : 6 ≡ 7 = h.1 in
    omega (arith, clash)

want_of_memory_at_any_time : EndsFor [] follow 0 NoMemory
want_of_memory_at_any_time = tt
