-- If no net is reached from itself through listening pins, rounds settle by as many rounds as there are outputs:
-- a net that changes in a round hears one that changed in the round before, and so on back to the first; these are all
-- different nets, each the output of an instance of its own.
use Rattle.std.proofs.Common.{◌≡◌, ℕ, zero, suc, ◌+◌, ◌≤◌, ◌==◌, Bool, true, false, not, ◌&&◌, ◌||◌, cond, List, [], ◌∷◌, ◌++◌, length, length-append, refl, sym, ap, subst, ◌∙◌, arith, inl, inr, ◌⊎◌, All, Option, Some, None, is_some, nat_eq}
use Rattle.std.specs.Prelude.{option_to_list}
use Rattle.std.specs.List.{IsDistinct}
use Rattle.std.specs.Cmp.{nat_eq_equiv}
use Rattle.std.specs.Set.{is_member}
use Rattle.std.proofs.lemmas.Bool.{both_ways, cases_Bool, cases_lt, and_parts, and_from, or_cases, or_left, or_right, eqb-true, eq-eqb, false_from_ne_true}
use Rattle.std.proofs.lemmas.List.Elements.{All-head, All-tail}
use Rattle.std.proofs.lemmas.List.Folds.{list_any-append}
use Rattle.std.proofs.lemmas.List.Sums.{sum_by-cons}
use Rattle.std.proofs.lemmas.Map.Keys.{IsDistinct-push}
use Rattle.std.proofs.lemmas.Map.Made.{length-le_from_is_member}
use Rattle.scald_base.specs.Time.{Header}
use Rattle.vector_names.specs.declared.bits.Target.{Target}
use Rattle.vector_names.specs.declared.bits.Target.TheVariants.{Net as OnNet, Constant}
use Rattle.step_values.specs.declared.value.Value.{Value}
use Rattle.skew_algebra.specs.Wave.{Wave}
use Rattle.element_kinds.specs.declared.kind.Kind.{Kind}
use Rattle.flat_circuit.specs.declared.instance.Pin.{Pin}
use Rattle.flat_circuit.specs.declared.instance.Instance.{Instance}
use Rattle.element_kinds.specs.Kinds.{has_output, listens}
use Rattle.flat_circuit.specs.Instances.{InstanceFits, outputs, out_at}
use Rattle.flat_circuit.specs.Loop.{Reaches, By_one, And_then}
use Rattle.flat_circuit.specs.Circuit.{Circuit, IsCircuit, driver_at, driver, instance_in}
use Rattle.fixpoint_engine.specs.Same.{same_wave}
use Rattle.fixpoint_engine.specs.Waves.{Waves}
use Rattle.fixpoint_engine.specs.declared.rounds.EngineEnd.{EngineEnd}
use Rattle.fixpoint_engine.specs.declared.rounds.EngineEnd.TheVariants.{Unsettled, NoMemory}
use Rattle.fixpoint_engine.specs.Rounds.{wave_from, round, AreSame, SettlesAt}
use Rattle.fixpoint_engine.specs.Work.{differs, is_on_any, hears_from, hears_in, is_due}
use Rattle.fixpoint_engine.specs.Loops.{Hears, HasNoLoop}
use Rattle.fixpoint_engine.specs.End.{EndsFor}
use Rattle.fixpoint_engine.specs.Worklist.{output_net}
use Rattle.fixpoint_engine.proofs.Same.{same_wave_is, same_wave_self}
use Rattle.fixpoint_engine.proofs.Reached.{undue_stays, due_takes}

-- ---- a net that is heard

pub record IsHeard (set : ℕ → Bool) (heard : (ℕ → Bool) → Bool) : Type 0 where
  pub net : ℕ
  pub of : set net ≡ true
  pub is : heard (λ i. i == net) ≡ true

heard_target : (set : ℕ → Bool) (t : Target) → is_on_any set t ≡ true → IsHeard set (λ nets. is_on_any nets t)
heard_target set (OnNet i) on = record { net = i; of = on; is = eq-eqb i i refl }
heard_target set (Constant one) on = cc

heard_from : (set : ℕ → Bool) (kind : Kind) (place : ℕ) (ps : List Pin) → hears_from set kind place ps ≡ true → IsHeard set (λ nets. hears_from nets kind place ps)
heard_from set kind place [] heard = cc
heard_from set kind place (p ∷ ps) heard =
    elim (or_cases (listens kind place && is_on_any set p.target) (hears_from set kind (place + 1) ps) heard) [
      | inl here ↦
          let parts = and_parts (listens kind place) (is_on_any set p.target) here in
          let at = heard_target set p.target parts.1 in
          record { net = at.net; of = at.of; is = or_left _ _ (and_from _ _ parts.0 at.is) }
      | inr later ↦
          let at = heard_from set kind (place + 1) ps later in
          record { net = at.net; of = at.of; is = or_right _ _ at.is }
    ]

pub heard_in : (set : ℕ → Bool) (d : Option Instance) → hears_in set d ≡ true → IsHeard set (λ nets. hears_in nets d)
heard_in set None heard = cc
heard_in set (Some j) heard = heard_from set j.kind 0 j.pins heard

-- ---- the nets that outputs drive

output_nets : List Instance → List ℕ
output_nets [] = []
output_nets (j ∷ js) = option_to_list (output_net j.out) ++ output_nets js

few_outputs : (h : Header) (n : ℕ) (js : List Instance) → All (InstanceFits h n) js → length (output_nets js) ≤ outputs js
unfolding output_nets
few_outputs h n [] each = omega arith
few_outputs h n (j ∷ js) each =
    let rest = few_outputs h n js (All-tail (InstanceFits h n) j js each) in
    let one = by j.out (has_output j.kind) (All-head (InstanceFits h n) j js each).has_out in
    let long : length (output_nets (j ∷ js)) ≡ length (option_to_list (output_net j.out)) + length (output_nets js) = length-append (option_to_list (output_net j.out)) (output_nets js) in
    let count : outputs (j ∷ js) ≡ cond (has_output j.kind) 1 0 + outputs js = sum_by-cons (λ (i : Instance). cond (has_output i.kind) 1 0) j js in
    omega (arith, rest, one, long, count)
  where
    by : (out : Option Target) (makes : Bool) → is_some out ≡ makes → length (option_to_list (output_net out)) ≤ cond makes 1 0
    by None makes is = omega arith
    by (Some (OnNet i)) true is = omega arith
    by (Some (OnNet i)) false is = cc
    by (Some (Constant one)) makes is = omega arith

output_among : (js : List Instance) (k i : ℕ) → out_at js k ≡ Some (OnNet i) → is_member nat_eq (output_nets js) i ≡ true
unfolding output_nets
output_among [] k i is = cc
output_among (j ∷ js) zero i is =
    subst (λ (out : Option Target). is_member nat_eq (option_to_list (output_net out) ++ output_nets js) i ≡ true) (sym is) (or_left _ _ (eq-eqb i i refl))
output_among (j ∷ js) (suc k) i is =
    list_any-append (nat_eq i) (option_to_list (output_net j.out)) (output_nets js) ∙ or_right _ _ (output_among js k i is)

-- ---- a net that changes from a round to the next

abbrev Changes : Circuit → (ℕ → Bool) → Waves → ℕ → ℕ → Type 0
Changes c active start r i = differs (round c active start r) (round c active start (suc r)) i ≡ true

unchanged : (c : Circuit) (active : ℕ → Bool) (start : Waves) (r i : ℕ) →
    round c active start (suc r) i ≡ round c active start r i → differs (round c active start r) (round c active start (suc r)) i ≡ false
unchanged c active start r i same = ap (λ (w : Wave Value). not (same_wave (round c active start r i) w)) same ∙ ap not (same_wave_self (round c active start r i))

change_due : (c : Circuit) (active : ℕ → Bool) (start : Waves) (r i : ℕ) → Changes c active start r i → is_due c active (round c active start) (suc r) i ≡ true
change_due c active start r i changes = elim (cases_Bool (is_due c active (round c active start) (suc r) i)) [
  | inl due ↦ due
  | inr undue ↦ absurd (both_ways _ (unchanged c active start r i (undue_stays c active start r i undue)) changes)
]

-- it is some instance's output
change_output : (c : Circuit) (active : ℕ → Bool) (start : Waves) (r i : ℕ) → IsCircuit c → Changes c active start r i → is_member nat_eq (output_nets c.instances) i ≡ true
change_output c active start r i known changes = by (driver_at c.nets i) refl
  where
    takes : (found : Option ℕ) → driver_at c.nets i ≡ found → round c active start (suc r) i ≡ wave_from c (round c active start r) (instance_in c found) (round c active start r i)
    takes found is =
        due_takes c active start r i (change_due c active start r i changes)
        ∙ ap (λ (o : Option ℕ). wave_from c (round c active start r) (instance_in c o) (round c active start r i)) is

    by : (found : Option ℕ) → driver_at c.nets i ≡ found → is_member nat_eq (output_nets c.instances) i ≡ true
    by None is = absurd (both_ways _ (unchanged c active start r i (takes None is)) changes)
    by (Some k) is = output_among c.instances k i (known.drivers.is i k is)

-- and hears one that changed in the round before
change_heard : (c : Circuit) (active : ℕ → Bool) (start : Waves) (r i : ℕ) → Changes c active start (suc r) i →
    IsHeard (differs (round c active start r) (round c active start (suc r))) (λ nets. hears_in nets (driver c i))
unfolding is_due
change_heard c active start r i changes =
    heard_in _ (driver c i) (and_parts (active i) (hears_in (differs (round c active start r) (round c active start (suc r))) (driver c i)) (change_due c active start (suc r) i changes)).1

-- ---- the nets that led to a change

onward : {R : ℕ → ℕ → Type 0} {i m j : ℕ} → Reaches R i m → R m j → Reaches R i j
onward (By_one r) s = And_then r (By_one s)
onward (And_then r q) s = And_then r (onward q s)

-- as many outputs as rounds, and one more, each of which the net is reached from, or is the net
record Trail (c : Circuit) (i r : ℕ) : Type 0 where
  nets : List ℕ
  long : length nets ≡ suc r
  once : IsDistinct nat_eq nets
  leads : (q : ℕ) → is_member nat_eq nets q ≡ true → (q ≡ i) ⊎ Reaches (Hears c) q i
  outs : (q : ℕ) → is_member nat_eq nets q ≡ true → is_member nat_eq (output_nets c.instances) q ≡ true

-- with one net more
longer : (c : Circuit) (m i r : ℕ) → HasNoLoop c → Hears c m i → is_member nat_eq (output_nets c.instances) i ≡ true → Trail c m r → Trail c i (suc r)
longer c m i r none hears out trail = record {
  nets = trail.nets ++ i ∷ [];
  long = length-append trail.nets (i ∷ []) ∙ (let long = trail.long in omega (arith, long));
  once = IsDistinct-push nat_eq_equiv trail.nets i trail.once (false_from_ne_true _ (λ among. none i (reached i among)));
  leads = λ q among. elim (parts q among) [ inl before ↦ inr (reached q before) | inr end ↦ inl end ];
  outs = λ q among. elim (parts q among) [ inl before ↦ trail.outs q before | inr end ↦ subst (λ (n : ℕ). is_member nat_eq (output_nets c.instances) n ≡ true) (sym end) out ];
}
  where
    reached : (q : ℕ) → is_member nat_eq trail.nets q ≡ true → Reaches (Hears c) q i
    reached q among = elim (trail.leads q among) [
      | inl same ↦ By_one (subst (λ (n : ℕ). Hears c n i) (sym same) hears)
      | inr far ↦ onward far hears
    ]

    last : (q : ℕ) → (nat_eq q i || false) ≡ true → q ≡ i
    last q is = elim (or_cases (nat_eq q i) false is) [ inl same ↦ eqb-true q i same | inr never ↦ cc ]

    parts : (q : ℕ) → is_member nat_eq (trail.nets ++ i ∷ []) q ≡ true → (is_member nat_eq trail.nets q ≡ true) ⊎ (q ≡ i)
    parts q among = elim (or_cases (is_member nat_eq trail.nets q) (nat_eq q i || false) (sym (list_any-append (nat_eq q) trail.nets (i ∷ [])) ∙ among)) [
      | inl before ↦ inl before
      | inr end ↦ inr (last q end)
    ]

trail_of : (c : Circuit) (active : ℕ → Bool) (start : Waves) (r i : ℕ) → IsCircuit c → HasNoLoop c → Changes c active start r i → Trail c i r
unfolding IsDistinct
trail_of c active start zero i known none changes = record {
  nets = i ∷ [];
  long = refl;
  once = (tt, tt);
  leads = λ q among. inl (last q among);
  outs = λ q among. subst (λ (n : ℕ). is_member nat_eq (output_nets c.instances) n ≡ true) (sym (last q among)) (change_output c active start 0 i known changes);
}
  where
    last : (q : ℕ) → (nat_eq q i || false) ≡ true → q ≡ i
    last q is = elim (or_cases (nat_eq q i) false is) [ inl same ↦ eqb-true q i same | inr never ↦ cc ]
trail_of c active start (suc r) i known none changes =
    let heard = change_heard c active start r i changes in
    longer c heard.net i r none heard.is (change_output c active start (suc r) i known changes) (trail_of c active start r heard.net known none heard.of)

-- ---- settling

-- As many rounds as outputs are enough, from any start and over any active nets.
pub settles_by_outputs : (c : Circuit) (active : ℕ → Bool) (start : Waves) → IsCircuit c → HasNoLoop c →
    AreSame (round c active start (suc (outputs c.instances))) (round c active start (outputs c.instances))
settles_by_outputs c active start known none i = elim (cases_Bool (same_wave (round c active start n i) (round c active start (suc n) i))) [
  | inl same ↦ sym (same_wave_is _ _ same)
  | inr differ ↦ absurd (too_long (trail_of c active start n i known none (ap not differ)))
]
  where
    n : ℕ
    n = outputs c.instances

    too_long : Trail c i n → ⊥
    too_long trail =
        let most = length-le_from_is_member nat_eq_equiv trail.nets (output_nets c.instances) trail.once trail.outs in
        let few = few_outputs c.header (length c.nets) c.instances known.each in
        let long = trail.long in
        omega (arith, most, few, long)

pub settles_soon : (c : Circuit) (active : ℕ → Bool) (start : Waves) (limit r : ℕ) → IsCircuit c → HasNoLoop c → SettlesAt (round c active start) limit r → r ≤ outputs c.instances
settles_soon c active start limit r known none settles = elim (cases_lt (outputs c.instances) r) [
  | inl late ↦ absurd (settles.first (outputs c.instances) late (settles_by_outputs c active start known none))
  | inr soon ↦ soon
]

pub settles_within : (c : Circuit) (active : ℕ → Bool) (start : Waves) (limit : ℕ) (e : EngineEnd) →
    IsCircuit c → HasNoLoop c → outputs c.instances ≤ limit → EndsFor c.order (round c active start) limit e → e ≡ NoMemory
settles_within c active start limit NoMemory known none within ends = refl
settles_within c active start limit (Unsettled net at) known none within ends = absurd (ends.0.never (outputs c.instances) within (settles_by_outputs c active start known none))
