-- Nets by their numbers, and the builder's answers for them.
use Rattle.std.proofs.Common.{◌≡◌, ◌≢◌, ℕ, ◌<◌, ◌≤◌, Bool, true, false, not, ◌&&◌, List, [], ◌∷◌, ◌++◌, length, map, Option, Some, None, refl, ap, sym, ◌∙◌, subst, arith}
use Rattle.std.specs.List.{All}
use Rattle.std.proofs.lemmas.Bool.Decides.{nat_tests}
use Rattle.std.specs.Prelude.{nat_lt}
use Rattle.std.proofs.lemmas.List.{get_or_append_left, append-nil, append_assoc, length-append}
use Rattle.std.proofs.lemmas.List.Elements.{All-head, All-tail, All-cons, All-nil, All-weaker}
use Rattle.scald_base.specs.declared.assertion.AssertSpec.{AssertSpec}
use Rattle.scald_base.specs.declared.refusal.Place.{Place}
use Rattle.scald_base.specs.declared.refusal.Refusal.{Refusal}
use Rattle.scald_base.specs.declared.refusal.RefusalKind.{RefusalKind}
use Rattle.scald_base.specs.declared.refusal.RefusalKind.TheVariants.{AssertionClash, TooMany}
use Rattle.scald_base.specs.declared.refusal.Stop.{Stop}
use Rattle.scald_base.specs.declared.refusal.Stop.TheVariants.{Refused, NoMemory}
use Rattle.vector_names.specs.declared.bits.Target.{Target}
use Rattle.vector_names.specs.declared.bits.Target.TheVariants.{Net as OnNet, Constant}
use Rattle.vector_names.specs.declared.bits.BitRef.{BitRef}
use Rattle.flat_circuit.specs.declared.instance.Pin.{Pin}
use Rattle.flat_circuit.specs.declared.instance.Instance.{Instance}
use Rattle.flat_circuit.specs.Name.{Name, nameless, IsNumber}
use Rattle.flat_circuit.specs.Instances.{TargetExists, PinExists, OutExists, InstanceFits, most_bits}
use Rattle.flat_circuit.specs.Builder.{Built, IsBuilt, Asserted, Clashes, is_asserted, spec_of, has_name, with_asserted, GivesNet, IsNetRefusal, IsNetFault}
use Rattle.macro_expander.specs.declared.expansion.Expansion.{Expansion}
use Rattle.macro_expander.specs.Assertions.{same_assertion}
use Rattle.macro_expander.specs.Outcome.{Fails}
use Rattle.macro_expander.specs.Terms.{clashes, net_bit}
use Rattle.macro_expander.specs.Numbered.{where_of, pin_of, out_of, instance_of, state_of, BitExists, Grows, Failed, GivesBits, names_in}
use Rattle.macro_expander.proofs.Alike.{assertion_equal, assertion_self}

-- ---- numbers keep their names

pub where_stays : (names more : List Name) (t : Target) → TargetExists (length names) t → where_of (names ++ more) t ≡ where_of names t
where_stays names more (OnNet i) h = rw (get_or_append_left names more nameless i h) refl
where_stays names more (Constant b) h = refl

pin_stays : (names more : List Name) (p : Pin) → PinExists (length names) p → pin_of (names ++ more) p ≡ pin_of names p
pin_stays names more p h = rw (where_stays names more p.target h) refl

pins_stay : (names more : List Name) (ps : List Pin) → All (PinExists (length names)) ps → map (pin_of (names ++ more)) ps ≡ map (pin_of names) ps
pins_stay names more [] h = refl
pins_stay names more (p ∷ ps) h = rw (pin_stays names more p (All-head (PinExists (length names)) p ps h), pins_stay names more ps (All-tail (PinExists (length names)) p ps h)) refl

out_stays : (names more : List Name) (o : Option Target) → OutExists (length names) o → out_of (names ++ more) o ≡ out_of names o
out_stays names more None h = refl
out_stays names more (Some t) h = ap Some (where_stays names more t h)

pub record Exists (nets : ℕ) (j : Instance) : Type 0 where
  pub reads : All (PinExists nets) j.pins
  pub drives : OutExists nets j.out

instance_stays : (names more : List Name) (j : Instance) → Exists (length names) j → instance_of (names ++ more) j ≡ instance_of names j
instance_stays names more j h = rw (pins_stay names more j.pins h.reads, out_stays names more j.out h.drives) refl

pub instances_stay : (names more : List Name) (js : List Instance) → All (Exists (length names)) js → map (instance_of (names ++ more)) js ≡ map (instance_of names) js
instances_stay names more [] h = refl
instances_stay names more (j ∷ js) h = rw (instance_stays names more j (All-head (Exists (length names)) j js h), instances_stay names more js (All-tail (Exists (length names)) j js h)) refl

pub all_exist : (b : Built) → IsBuilt b → All (Exists (length b.names)) b.instances
all_exist b h = All-weaker (InstanceFits b.header (length b.names)) (Exists (length b.names)) (λ j f. record { reads = f.exists.reads; drives = f.exists.drives }) b.instances h.each

-- ---- clashes

module _ (given : List Asserted) (text : List ℕ) (spec : AssertSpec) where
  clash_cases : (a b c : Bool) → is_asserted spec ≡ a → is_asserted (spec_of given text) ≡ b →
      same_assertion spec (spec_of given text) ≡ c → (Clashes given text spec → ⊥) → (a && (b && not c)) ≡ false
  clash_cases false b c e f g h = refl
  clash_cases true false c e f g h = refl
  clash_cases true true true e f g h = refl
  clash_cases true true false e f g h =
      absurd (h (record {
        is_one = e;
        was_one = f;
        differs = λ same. let t : same_assertion spec spec ≡ false =
            subst (λ (x : AssertSpec). same_assertion spec x ≡ false) (sym same) g in absurd (cc (assertion_self spec));
      }))

  pub agrees : (Clashes given text spec → ⊥) → clashes given text spec ≡ false
  agrees h = clash_cases (is_asserted spec) (is_asserted (spec_of given text)) (same_assertion spec (spec_of given text)) refl refl refl h

  differs_as : (c : Bool) → same_assertion spec (spec_of given text) ≡ c → spec ≢ spec_of given text → not c ≡ true
  differs_as false g h = refl
  differs_as true g h = absurd (h (assertion_equal spec (spec_of given text) g))

  pub clashes_so : Clashes given text spec → clashes given text spec ≡ true
  clashes_so h = rw (h.is_one, h.was_one, differs_as (same_assertion spec (spec_of given text)) refl h.differs) refl

-- ---- one bit of a net

pub grows_refl : (e : Expansion) → Grows e e
grows_refl e = record { more = []; names = sym (append-nil (names_in e)); header = refl; statements = omega arith }

pub grows_trans : (d e f : Expansion) → Grows d e → Grows e f → Grows d f
grows_trans d e f g h = record {
  more = g.more ++ h.more;
  names = h.names ∙ (ap (λ names. names ++ h.more) g.names ∙ append_assoc (names_in d) g.more h.more);
  header = h.header ∙ g.header;
  statements = omega arith;
}

module _ (e : Expansion) (text : List ℕ) (bit : ℕ) (spec : AssertSpec) (place : Place) where
  abbrev the_name : Name
  the_name = record { text = text; bit = bit }

  abbrev the_bit : ℕ → BitRef
  the_bit i = record { target = OnNet i; inverted = false }

  abbrev with_builder : Built → Expansion
  with_builder b = record { statements = e.statements; builder = b }

  abbrev asserting : Built
  asserting = record e.builder { asserted = with_asserted e.builder.asserted text spec }

  abbrev growing : Built
  growing = record asserting { names = e.builder.names ++ the_name ∷ []; wires = e.builder.wires ++ e.builder.header.wire ∷ [] }

  given_known : (i : ℕ) → (Clashes e.builder.asserted text spec → ⊥) → has_name e.builder.names the_name ≡ true → IsNumber e.builder.names the_name i →
      GivesBits e (with_builder asserting) (the_bit i ∷ []) (net_bit text spec place bit (state_of e))
  given_known i free h number = record {
    is = rw (agrees e.builder.asserted text spec free, h, number.is) refl;
    grows = record { more = []; names = sym (append-nil e.builder.names); header = refl; statements = omega arith };
    exist = All-cons (BitExists (length e.builder.names)) (the_bit i) [] (record { target = number.below }) (All-nil (BitExists (length e.builder.names)));
  }

  given_new : (i : ℕ) → IsBuilt e.builder → length e.builder.names < most_bits → (Clashes e.builder.asserted text spec → ⊥) →
      has_name e.builder.names the_name ≡ false → IsNumber (e.builder.names ++ the_name ∷ []) the_name i →
      GivesBits e (with_builder growing) (the_bit i ∷ []) (net_bit text spec place bit (state_of e))
  given_new i built room free h number =
      let fits : nat_lt (length e.builder.names) most_bits ≡ true = grind (arith, nat_tests) in
      record {
        is = rw (agrees e.builder.asserted text spec free, h, fits, number.is, instances_stay e.builder.names (the_name ∷ []) e.builder.instances (all_exist e.builder built)) refl;
        grows = record { more = the_name ∷ []; names = refl; header = refl; statements = omega arith };
        exist = All-cons (BitExists (length (e.builder.names ++ the_name ∷ []))) (the_bit i) []
            (record { target = number.below }) (All-nil (BitExists (length (e.builder.names ++ the_name ∷ []))));
      }

  given_by : (h : Bool) (b : Built) (i : ℕ) → has_name e.builder.names the_name ≡ h → IsBuilt e.builder → IsBuilt b → GivesNet e.builder b the_name spec i →
      GivesBits e (with_builder b) (the_bit i ∷ []) (net_bit text spec place bit (state_of e))
  given_by true b i h built later g =
      let is : b ≡ asserting = rw h at g.after in
      subst (λ (x : Built). GivesBits e (with_builder x) (the_bit i ∷ []) (net_bit text spec place bit (state_of e))) (sym is)
      (given_known i g.agrees h (subst (λ (x : Built). IsNumber x.names the_name i) is g.number))
  given_by false b i h built later g =
      let is : b ≡ growing = rw h at g.after in
      let few : length (e.builder.names ++ the_name ∷ []) ≤ most_bits = subst (λ (x : Built). length x.names ≤ most_bits) is later.few_nets in
      let room : length e.builder.names < most_bits = omega (arith, length-append e.builder.names (the_name ∷ [])) in
      subst (λ (x : Built). GivesBits e (with_builder x) (the_bit i ∷ []) (net_bit text spec place bit (state_of e))) (sym is)
      (given_new i built room g.agrees h (subst (λ (x : Built). IsNumber x.names the_name i) is g.number))

  pub net_given : (b : Built) (i : ℕ) → IsBuilt e.builder → IsBuilt b → GivesNet e.builder b the_name spec i →
      GivesBits e (with_builder b) (the_bit i ∷ []) (net_bit text spec place bit (state_of e))
  net_given b i = given_by (has_name e.builder.names the_name) b i refl

  -- refusals
  net_fails : (kind : RefusalKind) → IsNetFault e.builder the_name spec kind → net_bit text spec place bit (state_of e) ≡ Fails kind place
  net_fails AssertionClash h = rw (clashes_so e.builder.asserted text spec h) refl
  net_fails TooMany h =
      let full : nat_lt (length e.builder.names) most_bits ≡ false = grind (arith, nat_tests) in
      rw (agrees e.builder.asserted text spec h.0, h.1, full) refl
  net_fails _ h = absurd h

  pub net_refused : (stop : Stop) → IsNetRefusal e.builder the_name spec place stop → Failed stop (net_bit text spec place bit (state_of e))
  net_refused NoMemory h = record { agrees = λ r is. absurd (cc) }
  net_refused (Refused at) h = record {
    agrees = λ r is.
        let same : at ≡ r = cc in
        subst (λ (x : Refusal). net_bit text spec place bit (state_of e) ≡ Fails x.kind x.place) same
        (subst (λ (p : Place). net_bit text spec place bit (state_of e) ≡ Fails at.kind p) (sym h.0) (net_fails at.kind h.1));
  }
