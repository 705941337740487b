-- How many instances there are, and what a builder holds after each call.
use Rattle.std.proofs.Common.{◌≡◌, ℕ, ◌+◌, ◌<◌, ◌≤◌, Bool, true, false, cond, not, ◌&&◌, ◌||◌, nat_le, nat_lt, List, [], ◌∷◌, ◌++◌, length, refl, ap, ◌∙◌, arith}
use mir.Val.{bool_byte}
use Rattle.std.specs.Prelude.{count_by, Option, Some, None}
use Rattle.std.proofs.lemmas.Bool.Decides.{nat_tests}
use Rattle.std.proofs.lemmas.List.{length_push}
use Rattle.std.proofs.lemmas.List.Sums.{sum_by-append}
use Rattle.std.proofs.lemmas.List.Elements.{All-push, All-weaker}
use Rattle.scald_base.specs.Time.{Header, Bounds}
use Rattle.scald_base.specs.Fitting.{Fits}
use Rattle.scald_base.specs.declared.assertion.AssertSpec.{AssertSpec}
use Rattle.vector_names.specs.declared.bits.Target.{Target}
use Rattle.vector_names.specs.declared.bits.Target.TheVariants.{Net as OnNet, Constant}
use Rattle.flat_circuit.specs.declared.instance.Instance.{Instance}
use Rattle.element_kinds.specs.Kinds.{has_output}
use Rattle.flat_circuit.specs.Name.{Name}
use Rattle.flat_circuit.specs.Instances.{TargetExists, PinExists, OutExists, InstanceExists, InstanceFits, outputs, checkers, all_pins, AreFew, AreCounts, most_bits, most_pins}
use Rattle.flat_circuit.specs.Builder.{built, Nets, Asserted, is_asserted, with_asserted, has_text, has_name, is_one_too_many, IsBuilt}
use Rattle.flat_circuit.proofs.Tables.{distinct_push}

abbrev pub of_bool : Bool → ℕ
of_bool b = cond b 1 0

-- what a test counts for
pub byte_is : (b : Bool) → bool_byte b ≡ of_bool b
byte_is true = refl
byte_is false = refl

count_push : (p : Instance → Bool) (js : List Instance) (j : Instance) → count_by p (js ++ j ∷ []) ≡ count_by p js + of_bool (p j)
count_push p js j = sum_by-append (λ (x : Instance). cond (p x) 1 0) js (j ∷ []) ∙ omega arith

pins_push : (js : List Instance) (j : Instance) → all_pins (js ++ j ∷ []) ≡ all_pins js + length j.pins
pins_push js j = sum_by-append (λ (x : Instance). length x.pins) js (j ∷ []) ∙ omega arith

-- elements and checkers are all
length_counts : (js : List Instance) → length js ≡ outputs js + checkers js
length_counts [] = refl
length_counts (j ∷ js) =
    let a = sum_by-append (λ (x : Instance). of_bool (has_output x.kind)) (j ∷ []) js in
    let b = sum_by-append (λ (x : Instance). of_bool (not (has_output x.kind))) (j ∷ []) js in
    let c = one (has_output j.kind) in
    omega (arith, a, b, c, length_counts js) where
      one : (t : Bool) → of_bool t + of_bool (not t) ≡ 1
      one true = refl
      one false = refl

pub length_few : (js : List Instance) → AreFew js → length js ≤ 131072
length_few js h = let a = h.of_outputs in let b = h.of_checkers in omega (arith, length_counts js)

pub counts_push : (js : List Instance) (j : Instance) (o k p : ℕ) → AreCounts js o k p →
    AreCounts (js ++ j ∷ []) (o + of_bool (has_output j.kind)) (k + of_bool (not (has_output j.kind))) (p + length j.pins)
counts_push js j o k p h =
    let a = h.outputs_are in let b = h.checkers_are in let d = h.pins_are in
    record {
      outputs_are = omega (arith, count_push (λ (x : Instance). has_output x.kind) js j);
      checkers_are = omega (arith, count_push (λ (x : Instance). not (has_output x.kind)) js j);
      pins_are = omega (arith, pins_push js j);
    }

few_pins : (js : List Instance) (j : Instance) (b : Bool) → (b || nat_lt most_pins (all_pins js + length j.pins)) ≡ false → all_pins js + length j.pins ≤ most_pins
few_pins js j true h = absurd (cc)
few_pins js j false h = grind (arith, nat_tests)

few_alike : (n : ℕ) (c : Bool) → (nat_le most_bits n || c) ≡ false → n + 1 ≤ most_bits
few_alike n c h = step (nat_le most_bits n) refl h where
  step : (b : Bool) → nat_le most_bits n ≡ b → (b || c) ≡ false → n + 1 ≤ most_bits
  step true e q = absurd (cc)
  step false e q = grind (arith, nat_tests)

pub few_push : (js : List Instance) (j : Instance) → AreFew js → is_one_too_many js j ≡ false → AreFew (js ++ j ∷ [])
few_push js j h r = step (has_output j.kind) refl r where
  step : (b : Bool) → has_output j.kind ≡ b → (cond b (nat_le most_bits (outputs js)) (nat_le most_bits (checkers js))
      || nat_lt most_pins (all_pins js + length j.pins)) ≡ false → AreFew (js ++ j ∷ [])
  step true e q =
      let o = count_push (λ (x : Instance). has_output x.kind) js j in
      let k = count_push (λ (x : Instance). not (has_output x.kind)) js j in
      let a = few_alike (outputs js) (nat_lt most_pins (all_pins js + length j.pins)) q in
      let u = h.of_checkers in
      record {
        of_outputs = rw (o, e) (omega arith);
        of_checkers = rw (k, e) (omega arith);
        of_pins = rw (pins_push js j) (few_pins js j (nat_le most_bits (outputs js)) q);
      }
  step false e q =
      let o = count_push (λ (x : Instance). has_output x.kind) js j in
      let k = count_push (λ (x : Instance). not (has_output x.kind)) js j in
      let a = few_alike (checkers js) (nat_lt most_pins (all_pins js + length j.pins)) q in
      let u = h.of_outputs in
      record {
        of_outputs = rw (o, e) (omega arith);
        of_checkers = rw (k, e) (omega arith);
        of_pins = rw (pins_push js j) (few_pins js j (nat_le most_bits (checkers js)) q);
      }

-- ---- between more nets

target_more : (n m : ℕ) (t : Target) → n ≤ m → TargetExists n t → TargetExists m t
target_more n m (OnNet i) l h = omega arith
target_more n m (Constant b) l h = tt

out_more : (n m : ℕ) (j : Instance) → n ≤ m → InstanceExists n j → InstanceExists m j
out_more n m j l h = record {
  reads = All-weaker (PinExists n) (PinExists m) (λ p e. target_more n m p.target l e) j.pins h.reads;
  drives = step j.out h.drives;
} where
  step : (o : Option Target) → OutExists n o → OutExists m o
  step None e = tt
  step (Some t) e = target_more n m t l e

pub fits_more : (h : Header) (n m : ℕ) (j : Instance) → n ≤ m → InstanceFits h n j → InstanceFits h m j
fits_more h n m j l f =
    record {
      pins = f.pins;
      has_out = f.has_out;
      lim = f.lim;
      split = f.split;
      exists = out_more n m j l f.exists;
    }

-- ---- what holds of a builder goes on

pub built_instance : (h : Header) (t : Nets) (given : List Asserted) (js : List Instance) (j : Instance) →
    IsBuilt (built h t given js) → InstanceFits h (length t.names) j → is_one_too_many js j ≡ false → IsBuilt (built h t given (js ++ j ∷ []))
built_instance h t given js j b f r = record {
  few_nets = b.few_nets;
  few = few_push js j b.few r;
  distinct = b.distinct;
  bounded = b.bounded;
  real = b.real;
  fit = b.fit;
  each = All-push (InstanceFits h (length t.names)) js j b.each f;
}

pub built_net : (h : Header) (t t' : Nets) (given : List Asserted) (js : List Instance) (name : Name) (w : Bounds) → IsBuilt (built h t given js) →
    length t.names < most_bits → has_name t.names name ≡ false →
    t'.names ≡ t.names ++ name ∷ [] → t'.wires ≡ t.wires ++ w ∷ [] → IsBuilt (built h t' given js)
built_net h t t' given js name w b l n en ew =
    let a : length t'.names ≡ length t.names + 1 = ap length en ∙ length_push t.names name in
    let d : length t'.wires ≡ length t.wires + 1 = ap length ew ∙ length_push t.wires w in
    let e = b.bounded in
    record {
      few_nets = omega arith;
      few = b.few;
      distinct = rw en (distinct_push t.names name b.distinct n);
      bounded = omega arith;
      real = b.real;
      fit = b.fit;
      each = All-weaker (InstanceFits h (length t.names)) (InstanceFits h (length t'.names)) (λ j f. fits_more h (length t.names) (length t'.names) j (omega arith) f) js b.each;
    }

pub built_asserted : (h : Header) (t : Nets) (given : List Asserted) (js : List Instance) (text : List ℕ) (spec : AssertSpec) →
    IsBuilt (built h t given js) → Fits h spec → IsBuilt (built h t (with_asserted given text spec) js)
built_asserted h t given js text spec b f = step (is_asserted spec) refl (has_text given text) where
  step : (a : Bool) → is_asserted spec ≡ a → (k : Bool) → IsBuilt (built h t (cond (a && not k) (given ++ record { text = text; spec = spec } ∷ []) given) js)
  step true e false = record {
    few_nets = b.few_nets;
    few = b.few;
    distinct = b.distinct;
    bounded = b.bounded;
    each = b.each;
    real = All-push (λ (x : Asserted). is_asserted x.spec ≡ true) given (record { text = text; spec = spec }) b.real e;
    fit = All-push (λ (x : Asserted). Fits h x.spec) given (record { text = text; spec = spec }) b.fit f;
  }
  step true e true = b
  step false e k = b

pub not_true : (b : Bool) → not b ≡ true → b ≡ false
not_true true h = absurd (cc)
not_true false h = refl
