-- Nets that nothing tells apart, and nets that something does, worked out on paper.
use Rattle.std.specs.Prelude.{◌≡◌, ℕ, zero, suc, ◌<◌, Bool, true, false, List, [], ◌∷◌, slice_get, Option, Some, None}
use Rattle.std.proofs.Common.{refl, sym, ap, subst, ◌∙◌, arith}
use Rattle.scald_base.specs.Time.{Bounds}
use Rattle.scald_base.specs.declared.assertion.AssertSpec.{AssertSpec}
use Rattle.scald_base.specs.declared.assertion.AssertSpec.TheVariants.{None as Unasserted, Stable}
use Rattle.vector_names.specs.declared.bits.Target.{Target}
use Rattle.vector_names.specs.declared.bits.Target.TheVariants.{Net as OnNet, Constant}
use Rattle.flat_circuit.specs.declared.case.CaseValue.{CaseValue}
use Rattle.element_kinds.specs.declared.kind.Kind.{Kind}
use Rattle.element_kinds.specs.declared.kind.Kind.TheVariants.{Buf, And, Or}
use Rattle.flat_circuit.specs.declared.instance.Pin.{Pin}
use Rattle.flat_circuit.specs.declared.instance.Instance.{Instance}
use Rattle.flat_circuit.specs.declared.limits.Limits.TheVariants.{None as Unlimited}
use Rattle.flat_circuit.specs.declared.net.Net.{Net}
use Rattle.flat_circuit.specs.declared.split.Split.{Split}
use Rattle.flat_circuit.specs.Circuit.{Circuit}
use Rattle.flat_circuit.specs.Alike.{class_of, TargetsAlike, PinsAlike, InstancesAlike, CasesAlike, NetsAlike, value_in}
use Rattle.flat_circuit.specs.Stable.{AreAlikeAt, IsStable, AreNumbersOfNets, IsAsNumbersIn}
use Rattle.flat_circuit.proofs.Alike.{nets_self}
use Rattle.flat_circuit.proofs.Pairs.{some_same, stable_by_numbers}

abbrev bounds : ℕ → ℕ → Bounds
bounds min max = record { min = min; max = max }

abbrev net : AssertSpec → Bounds → Option ℕ → Net
net spec wire driver = record { name = []; bit = 0; spec = spec; wire = wire; driver = driver }

abbrev on : Target → Pin
on target = record { target = target; inverted = false; hold = false }

abbrev element : Kind → Bounds → Bool → List Pin → ℕ → Instance
element kind delay inverted pins out = record {
  path = [];
  bit = 0;
  kind = kind;
  delay = delay;
  split = None;
  limits = Unlimited;
  pins = pins;
  out = Some (OnNet out);
  out_inverted = inverted;
  place = record { line = 1; col = 1 };
}

abbrev circuit : List Net → List Instance → Circuit
circuit nets instances = record {
  header = record { units = 8; ticks = 1; wire = bounds 0 0; pskew = (0, 0); cskew = (0, 0) };
  nets = nets;
  instances = instances;
  order = [];
}

-- the net 0 is of one class, and the nets 1 and 2 are of another
abbrev classes : List ℕ
classes = 0 ∷ 1 ∷ 1 ∷ []

-- ---- pins

one_class : TargetsAlike classes (OnNet 1) (OnNet 2)
one_class = refl

two_classes : ¬ TargetsAlike classes (OnNet 0) (OnNet 2)
two_classes h =
    let clash : 0 ≡ 1 = h in
    omega (arith, clash)

constant_and_net : ¬ TargetsAlike classes (Constant false) (OnNet 0)
constant_and_net h = h

two_constants : ¬ TargetsAlike classes (Constant false) (Constant true)
two_constants h =
    let clash : false ≡ true = h in
    cc

complement_tells_apart : ¬ PinsAlike classes (on (OnNet 1)) (record { target = OnNet 2; inverted = true; hold = false })
complement_tells_apart h =
    let clash : false ≡ true = h.complement in
    cc

mark_tells_apart : ¬ PinsAlike classes (record { target = OnNet 1; inverted = false; hold = true }) (on (OnNet 2))
mark_tells_apart h =
    let clash : true ≡ false = h.mark in
    cc

-- ---- drivers

abbrev buffer : Bounds → ℕ → Instance
buffer delay from = element Buf delay false (on (OnNet from) ∷ []) 3

-- whatever they drive
buffers_of_one_class : InstancesAlike classes (buffer (bounds 1 2) 1) (element Buf (bounds 1 2) false (on (OnNet 2) ∷ []) 4)
buffers_of_one_class = record {
  kind = refl;
  delay = refl;
  split = refl;
  complement = refl;
  pins = (record { target = refl; complement = refl; mark = refl }, tt);
}

greatest_delay_tells_apart : ¬ InstancesAlike classes (buffer (bounds 1 2) 1) (buffer (bounds 1 3) 1)
greatest_delay_tells_apart h =
    let clash : 2 ≡ 3 = ap (λ (d : Bounds). d.max) h.delay in
    omega (arith, clash)

least_delay_tells_apart : ¬ InstancesAlike classes (buffer (bounds 0 2) 1) (buffer (bounds 1 2) 1)
least_delay_tells_apart h =
    let clash : 0 ≡ 1 = ap (λ (d : Bounds). d.min) h.delay in
    omega (arith, clash)

-- the same buffer with two delays
abbrev two : ℕ → ℕ → ℕ → ℕ → Split
two r R f F = record { rise = bounds r R; fall = bounds f F }

-- the least rise and the greatest fall delay of an instance
abbrev least_rise : Option Split → ℕ
least_rise None = 0
least_rise (Some s) = s.rise.min

abbrev greatest_fall : Option Split → ℕ
greatest_fall None = 0
greatest_fall (Some s) = s.fall.max

abbrev split_buffer : Split → ℕ → Instance
split_buffer s from = record (buffer (bounds 1 4) from) { split = Some s }

split_buffers_of_one_class : InstancesAlike classes (split_buffer (two 1 2 3 4) 1)
    (split_buffer (two 1 2 3 4) 2)
split_buffers_of_one_class = record {
  kind = refl;
  delay = refl;
  split = refl;
  complement = refl;
  pins = (record { target = refl; complement = refl; mark = refl }, tt);
}

-- both go from 1 to 4
rise_and_fall_tell_apart : ¬ InstancesAlike classes (split_buffer (two 1 2 3 4) 1)
    (split_buffer (two 3 4 1 2) 1)
rise_and_fall_tell_apart h =
    let clash : 1 ≡ 3 = ap least_rise h.split in
    omega (arith, clash)

greatest_fall_tells_apart : ¬ InstancesAlike classes (split_buffer (two 1 4 1 2) 1)
    (split_buffer (two 1 4 1 3) 1)
greatest_fall_tells_apart h =
    let clash : 2 ≡ 3 = ap greatest_fall h.split in
    omega (arith, clash)

-- Two equal delays mean what one means, and yet they are not written alike.
two_equal_delays_tell_apart : ¬ InstancesAlike classes (split_buffer (two 1 4 1 4) 1)
    (buffer (bounds 1 4) 1)
two_equal_delays_tell_apart h =
    let clash : Some (two 1 4 1 4) ≡ None = h.split in
    cc

kind_tells_apart : ¬ InstancesAlike classes (element And (bounds 1 2) false (on (OnNet 1) ∷ []) 3) (element Or (bounds 1 2) false (on (OnNet 1) ∷ []) 3)
kind_tells_apart h =
    let clash : And ≡ Or = h.kind in
    cc

output_complement_tells_apart : ¬ InstancesAlike classes (buffer (bounds 1 2) 1) (element Buf (bounds 1 2) true (on (OnNet 1) ∷ []) 3)
output_complement_tells_apart h =
    let clash : false ≡ true = h.complement in
    cc

one_pin_more_tells_apart : ¬ InstancesAlike classes (element And (bounds 1 2) false (on (OnNet 1) ∷ []) 3) (element And (bounds 1 2) false (on (OnNet 1) ∷ on (OnNet 1) ∷ []) 3)
one_pin_more_tells_apart h = h.pins.1

-- the same two pins, the other way round
order_of_pins_tells_apart : ¬ InstancesAlike classes
    (element And (bounds 1 2) false (on (OnNet 0) ∷ on (OnNet 1) ∷ []) 3)
    (element And (bounds 1 2) false (on (OnNet 1) ∷ on (OnNet 0) ∷ []) 3)
order_of_pins_tells_apart h =
    let clash : 0 ≡ 1 = h.pins.0.target in
    omega (arith, clash)

-- ---- cases

abbrev gives : ℕ → Bool → CaseValue
gives net one = record { net = net; one = one }

last_value_counts : value_in (gives 3 true ∷ gives 2 true ∷ gives 3 false ∷ []) 3 ≡ Some false
last_value_counts = refl

no_value : value_in (gives 3 true ∷ []) 4 ≡ None
no_value = refl

same_values : CasesAlike ((gives 1 true ∷ gives 2 true ∷ []) ∷ []) 1 2
same_values zero values below = refl
same_values (suc place) values below =
    let past : suc place < 1 = below in
    absurd (omega (arith, past))

other_value_tells_apart : ¬ CasesAlike ((gives 1 true ∷ gives 2 false ∷ []) ∷ []) 1 2
other_value_tells_apart h =
    let both : Some true ≡ Some false = h 0 [] (omega arith) in
    cc

-- in the second of two cases
value_for_one_tells_apart : ¬ CasesAlike ([] ∷ (gives 1 true ∷ []) ∷ []) 1 2
value_for_one_tells_apart h =
    let one : Some true ≡ None = h 1 [] (omega arith) in
    cc

-- ---- nets

abbrev input : AssertSpec → Net
input spec = net spec (bounds 0 0) None

abbrev output : ℕ → Net
output driver = net Unasserted (bounds 0 0) (Some driver)

inputs_without_assertion : NetsAlike (circuit [] []) [] classes 1 2 (input Unasserted) (input Unasserted)
inputs_without_assertion = record { spec = refl; wire = refl; values = λ place values below. absurd (omega (arith, below)); drivers = tt }

assertion_tells_apart : ¬ NetsAlike (circuit [] []) [] classes 1 2 (input Unasserted) (input (Stable []))
assertion_tells_apart h =
    let clash : Unasserted ≡ Stable [] = h.spec in
    cc

wire_tells_apart : ¬ NetsAlike (circuit [] []) [] classes 1 2 (input Unasserted) (net Unasserted (bounds 0 1) None)
wire_tells_apart h =
    let clash : 0 ≡ 1 = ap (λ (d : Bounds). d.max) h.wire in
    omega (arith, clash)

driver_tells_apart : ¬ NetsAlike (circuit [] (buffer (bounds 1 2) 0 ∷ [])) [] classes 1 2 (input Unasserted) (output 0)
driver_tells_apart h = h.drivers

-- ---- stable classes

-- two buffers of these delays on one input
abbrev pair : Bounds → Bounds → Circuit
pair first second = circuit (input Unasserted ∷ output 0 ∷ output 1 ∷ []) (buffer first 0 ∷ buffer second 0 ∷ [])

first_nets : AreNumbersOfNets classes
first_nets zero number below = refl
first_nets (suc zero) number below = refl
first_nets (suc (suc zero)) number below = refl
first_nets (suc (suc (suc place))) number below =
    let past : suc (suc (suc place)) < 3 = below in
    absurd (omega (arith, past))

-- the net 0 is of class 1, and the net 1 of class 0
other_nets : ¬ AreNumbersOfNets (1 ∷ 0 ∷ [])
other_nets h =
    let clash : 0 ≡ 1 = number 0 1 (h 0 0 (omega arith)) in
    omega (arith, clash)
  where
    number : (i j : ℕ) → ◌≡◌ {A = Option ℕ} (Some i) (Some j) → i ≡ j
    number i j e = cc

abbrev here : Circuit
here = pair (bounds 1 2) (bounds 1 2)

equal_buffers : IsStable here [] classes
equal_buffers = stable_by_numbers here [] classes refl first_nets each
  where
    self : (i : ℕ) (m n : Net) → slice_get here.nets i ≡ Some m → slice_get here.nets i ≡ Some n → NetsAlike here [] classes i i m n
    self i m n is_m is_n = subst (NetsAlike here [] classes i i m) (some_same m n (sym is_m ∙ is_n)) (nets_self here [] classes i m)

    second : NetsAlike here [] classes 2 1 (output 1) (output 0)
    second = record {
      spec = refl;
      wire = refl;
      values = λ place values below. absurd (omega (arith, below));
      drivers = record {
        kind = refl;
        delay = refl;
        split = refl;
        complement = refl;
        pins = (record { target = refl; complement = refl; mark = refl }, tt);
      };
    }

    each : (i : ℕ) → i < 3 → AreAlikeAt here [] classes i (class_of classes i)
    each zero below m n is_m is_n = self 0 m n is_m is_n
    each (suc zero) below m n is_m is_n = self 1 m n is_m is_n
    each (suc (suc zero)) below m n is_m is_n =
        subst (λ (o : Net). NetsAlike here [] classes 2 1 o n) (some_same (output 1) m is_m) (subst (NetsAlike here [] classes 2 1 (output 1)) (some_same (output 0) n is_n) second)
    each (suc (suc (suc i))) below m n is_m is_n = absurd (omega (arith, below))

-- one of them has two delays, each of them that of the other
abbrev one_split : Circuit
one_split = circuit (input Unasserted ∷ output 0 ∷ output 1 ∷ [])
    (buffer (bounds 1 4) 0 ∷ split_buffer (two 1 4 1 4) 0 ∷ [])

split_beside_unsplit : ¬ IsStable one_split [] classes
split_beside_unsplit h =
    let alike = h 1 2 refl (output 0) (output 1) refl refl in
    let clash : ◌≡◌ {A = Option Split} None (Some (two 1 4 1 4)) = alike.drivers.split in
    cc

-- one of them takes a tick longer
unequal_buffers : ¬ IsStable (pair (bounds 1 2) (bounds 1 3)) [] classes
unequal_buffers h =
    let alike = h 1 2 refl (output 0) (output 1) refl refl in
    let clash : 2 ≡ 3 = ap (λ (d : Bounds). d.max) alike.drivers.delay in
    omega (arith, clash)

-- a case that gives one of two inputs a value
set_input : ¬ IsStable (circuit (input Unasserted ∷ input Unasserted ∷ []) []) ((gives 1 true ∷ []) ∷ []) (0 ∷ 0 ∷ [])
set_input h =
    let alike = h 0 1 refl (input Unasserted) (input Unasserted) refl refl in
    let clash : None ≡ Some true = alike.values 0 [] (omega arith) in
    cc

set_in_one_class : ¬ IsAsNumbersIn 3 classes (gives 2 true ∷ [])
set_in_one_class h =
    let clash : Some true ≡ None = h 2 (omega arith) in
    cc
