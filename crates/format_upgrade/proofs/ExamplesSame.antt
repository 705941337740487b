-- Circuits that differ in one thing of one instance, in a net or in the header are not the same,
-- and those that differ in places or in the order of their names are; cases that are refused are
-- not the same as cases that are not.
use Rattle.std.proofs.Common.{◌≡◌, ℕ, ◌-◌, Bool, true, false, ◌||◌, List, [], ◌∷◌, Option, Some, None, Ok, Err, refl, ap, arith, slice_index_or, true≢false}
use Rattle.std.proofs.lemmas.Bool.{false≢true}
use Rattle.std.specs.Prelude.{codes, if◌then◌else◌}
use Rattle.scald_base.specs.Time.{Bounds, Header}
use Rattle.scald_base.specs.declared.refusal.Refusal.{Refusal}
use Rattle.scald_base.specs.declared.refusal.RefusalKind.TheVariants.{CaseNet, TooMany}
use Rattle.scald_base.specs.declared.assertion.AssertSpec.{AssertSpec}
use Rattle.scald_base.specs.declared.assertion.AssertSpec.TheVariants.{Stable}
use Rattle.element_kinds.specs.declared.kind.Kind.{Kind}
use Rattle.element_kinds.specs.declared.kind.Kind.TheVariants.{And, Or}
use Rattle.flat_circuit.specs.Limits.{hold_of}
use Rattle.flat_circuit.specs.Name.{Name}
use Rattle.flat_circuit.specs.Builder.{is_asserted, same_name}
use Rattle.flat_circuit.specs.declared.limits.Limits.TheVariants.{None as Unlimited, Edges}
use Rattle.flat_circuit.specs.declared.split.Split.{Split}
use Rattle.macro_expander.specs.Cases.{CaseBit}
use Rattle.macro_expander.specs.Named.{Fixed, NamedInstance, NamedPin, On, State, Where}
use Rattle.format_upgrade.specs.SameCircuit.{SameCases, SameCircuit}

abbrev header : Header
header = record { units = 8; ticks = 50; wire = record { min = 0; max = 2 }; pskew = (0, 0); cskew = (0, 0) }

abbrev bounds : ℕ → ℕ → Bounds
bounds min max = record { min = min; max = max }

abbrev net : List ℕ → Name
net text = record { text = text; bit = 0 }

abbrev pin : NamedPin
pin = record { target = On (net (codes "A")); inverted = false; hold = false }

abbrev on_b : NamedPin
on_b = record pin { target = On (net (codes "B")) }

abbrev inverted_pin : NamedPin
inverted_pin = record pin { inverted = true }

abbrev marked_pin : NamedPin
marked_pin = record pin { hold = true }

abbrev gate : NamedInstance
gate = record {
  path = codes "g";
  bit = 0;
  kind = And;
  delay = bounds 1 2;
  split = None;
  limits = Unlimited;
  pins = pin ∷ [];
  out = Some (On (net (codes "B")));
  out_inverted = false;
  place = record { line = 4; col = 1 };
}

abbrev circuit_of : List Name → List NamedInstance → State
circuit_of names js = record {
  header = header;
  statements = 1;
  names = names;
  wires = bounds 0 2 ∷ bounds 0 2 ∷ [];
  asserted = [];
  instances = js;
}

abbrev circuit : List Name → NamedInstance → State
circuit names j = circuit_of names (j ∷ [])

abbrev a_first : List Name
a_first = net (codes "A") ∷ net (codes "B") ∷ []

abbrev b_first : List Name
b_first = net (codes "B") ∷ net (codes "A") ∷ []

abbrev with_gate : NamedInstance → State
with_gate j = circuit a_first j

abbrev with_gates : List NamedInstance → State
with_gates js = circuit_of a_first js

-- ---- the same

elsewhere : SameCircuit (with_gate gate) (with_gate (record gate { place = record { line = 9; col = 3 } }))
elsewhere = record {
  header = refl;
  instances = refl;
  count = refl;
  names = λ name. refl;
  wires = λ name. refl;
  assertions = λ text. refl;
}

either_first : (a b : Bool) → (b || (a || false)) ≡ (a || (b || false))
either_first true true = refl
either_first true false = refl
either_first false true = refl
either_first false false = refl

one_wire : (a b : Bool) (w : Option Bounds) → (if b then w else (if a then w else None)) ≡ (if a then w else (if b then w else None))
one_wire true true w = refl
one_wire true false w = refl
one_wire false true w = refl
one_wire false false w = refl

other_order : SameCircuit (circuit a_first gate) (circuit b_first gate)
other_order = record {
  header = refl;
  instances = refl;
  count = refl;
  names = λ name. either_first (same_name name (net (codes "A"))) (same_name name (net (codes "B")));
  wires = λ name. one_wire (same_name name (net (codes "A"))) (same_name name (net (codes "B"))) (Some (bounds 0 2));
  assertions = λ text. refl;
}

-- ---- not the same

abbrev number_of : (NamedInstance → ℕ) → List NamedInstance → ℕ
number_of f [] = 0
number_of f (j ∷ js) = f j

abbrev if_or : Kind → ℕ
if_or Or = 1
if_or kind = 0

abbrev first_pin : (NamedPin → ℕ) → List NamedPin → ℕ
first_pin f [] = 0
first_pin f (p ∷ ps) = f p

-- the first byte of the name of a net
abbrev byte_of : Where → ℕ
byte_of (On name) = slice_index_or name.text 0 0
byte_of (Fixed one) = 0

abbrev byte_out : Option Where → ℕ
byte_out None = 0
byte_out (Some on) = byte_of on

abbrev rises_in : Option Split → ℕ
rises_in None = 0
rises_in (Some s) = s.rise.max

other_bit : ¬ SameCircuit (with_gate gate) (with_gate (record gate { bit = 1 }))
other_bit same = absurd (let there : 1 ≡ 0 = ap (number_of (λ j. j.bit)) same.instances in omega (arith, there))

other_delay : ¬ SameCircuit (with_gate gate) (with_gate (record gate { delay = bounds 1 3 }))
other_delay same = absurd (let there : 3 ≡ 2 = ap (number_of (λ j. j.delay.max)) same.instances in omega (arith, there))

other_split : ¬ SameCircuit (with_gate gate) (with_gate (record gate { split = Some (record { rise = bounds 1 2; fall = bounds 1 2 }) }))
other_split same = absurd (let there : 2 ≡ 0 = ap (number_of (λ j. rises_in j.split)) same.instances in omega (arith, there))

other_limits : ¬ SameCircuit (with_gate gate) (with_gate (record gate { limits = Edges 0 5 }))
other_limits same =
    absurd (let there : 5 ≡ 0 = ap (number_of (λ j. hold_of j.limits)) same.instances in omega (arith, there))

other_output : ¬ SameCircuit (with_gate gate) (with_gate (record gate { out_inverted = true }))
other_output same =
    absurd (let there : 1 ≡ 0 = ap (number_of (λ j. if j.out_inverted then 1 else 0)) same.instances in omega (arith, there))

other_path : ¬ SameCircuit (with_gate gate) (with_gate (record gate { path = codes "h" }))
other_path same =
    let there : 104 ≡ 103 = ap (number_of (λ j. slice_index_or j.path 0 0)) same.instances in
    omega (arith, there)

other_kind : ¬ SameCircuit (with_gate gate) (with_gate (record gate { kind = Or }))
other_kind same =
    let there : 1 ≡ 0 = ap (number_of (λ j. if_or j.kind)) same.instances in omega (arith, there)

other_pin : (p : NamedPin) (f : NamedPin → ℕ) → f p ≡ 1 → f pin ≡ 0 →
    ¬ SameCircuit (with_gate gate) (with_gate (record gate { pins = p ∷ [] }))
other_pin p f one none same =
    let there : f p ≡ f pin = ap (number_of (λ j. first_pin f j.pins)) same.instances in
    omega (arith, there, one, none)

other_target : ¬ SameCircuit (with_gate gate) (with_gate (record gate { pins = on_b ∷ [] }))
other_target = other_pin on_b (λ p. byte_of p.target - 65) refl refl

complemented : ¬ SameCircuit (with_gate gate) (with_gate (record gate { pins = inverted_pin ∷ [] }))
complemented = other_pin inverted_pin (λ p. if p.inverted then 1 else 0) refl refl

marked : ¬ SameCircuit (with_gate gate) (with_gate (record gate { pins = marked_pin ∷ [] }))
marked = other_pin marked_pin (λ p. if p.hold then 1 else 0) refl refl

other_driven : ¬ SameCircuit (with_gate gate)
    (with_gate (record gate { out = Some (On (net (codes "A"))) }))
other_driven same =
    let there : 65 ≡ 66 = ap (number_of (λ j. byte_out j.out)) same.instances in
    omega (arith, there)

-- instances stand in one order
turned : ¬ SameCircuit (with_gates (gate ∷ record gate { bit = 1 } ∷ []))
    (with_gates (record gate { bit = 1 } ∷ gate ∷ []))
turned same =
    let there : 1 ≡ 0 = ap (number_of (λ j. j.bit)) same.instances in omega (arith, there)

other_header : ¬ SameCircuit (with_gate gate)
    (record (with_gate gate) { header = record header { ticks = 25 } })
other_header same =
    let there : 25 ≡ 50 = ap (λ (h : Header). h.ticks) same.header in omega (arith, there)

-- the first entry of each name counts, so one that stands twice is named no more than before
once_more : ¬ SameCircuit (with_gate gate)
    (record (with_gate gate) {
      names = net (codes "A") ∷ a_first;
      wires = bounds 0 2 ∷ bounds 0 2 ∷ bounds 0 2 ∷ [];
    })
once_more same = let there : 3 ≡ 2 = same.count in omega (arith, there)

-- bit 1 of a name is another net than bit 0
other_name : ¬ SameCircuit (with_gate gate)
    (circuit (net (codes "A") ∷ record { text = codes "B"; bit = 1 } ∷ []) gate)
other_name same = false≢true (same.names (net (codes "B")))

other_assertion : ¬ SameCircuit (with_gate gate)
    (record (with_gate gate) { asserted = record { text = codes "A"; spec = Stable [] } ∷ [] })
other_assertion same =
    true≢false (ap (λ (spec : AssertSpec). is_asserted spec) (same.assertions (codes "A")))

-- ---- cases

abbrev refusal : Refusal
refusal = record { kind = CaseNet; place = record { line = 7; col = 6 } }

abbrev one_case : List CaseBit
one_case = record { name = net (codes "A"); one = true } ∷ []

same_cases : SameCases (Ok (one_case ∷ [])) (Ok (one_case ∷ []))
same_cases = refl

refused_elsewhere : SameCases (Err refusal) (Err (record refusal { place = record { line = 8; col = 1 } }))
refused_elsewhere = refl

a_case_less : ¬ SameCases (Ok (one_case ∷ [])) (Ok [])
a_case_less same = absurd (cc)

abbrev first_value : List (List CaseBit) → Bool
first_value [] = false
first_value ([] ∷ cases) = false
first_value ((bit ∷ bits) ∷ cases) = bit.one

other_value : ¬ SameCases (Ok (one_case ∷ []))
    (Ok ((record { name = net (codes "A"); one = false } ∷ []) ∷ []))
other_value same = false≢true (ap first_value same)

refused_otherwise : ¬ SameCases (Err refusal) (Err (record refusal { kind = TooMany }))
refused_otherwise same = absurd (cc)

one_is_refused : ¬ SameCases (Ok []) (Err refusal)
one_is_refused same = same

other_is_refused : ¬ SameCases (Err refusal) (Ok [])
other_is_refused same = same
