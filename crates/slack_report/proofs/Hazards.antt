-- The set of the instances whose mark has a hazard, one instance more; and waves in normal form.
use Rattle.std.proofs.Common.{◌≡◌, ◌∙◌, ℕ, ◌+◌, ◌<◌, ◌≤◌, ◌==◌, Bool, true, false, List, length, replicate, refl, sym, ap, subst, arith, Option, Some, None}
use Rattle.std.specs.Prelude.{is_some, slice_get}
use Rattle.std.proofs.lemmas.Bool.{eqb-true, eqb-false}
use Rattle.std.proofs.lemmas.List.{length-replicate}
use Rattle.std.proofs.lemmas.Option.{same_Some, slice_get_within}
use Rattle.step_values.specs.declared.value.Value.{Value}
use Rattle.step_values.specs.Cell.{values}
use Rattle.skew_algebra.specs.Wave.{IsNormal, Wave}
use Rattle.flat_circuit.specs.declared.instance.Instance.{Instance}
use Rattle.flat_circuit.specs.Circuit.{Circuit}
use Rattle.gate_eval.specs.Hold.{hazard}
use Rattle.fixpoint_engine.specs.Settled.{marked_in}
use Rattle.fixpoint_engine.specs.Waves.{Waves, marked_pin, pin_waves}
use Rattle.fixpoint_engine.proofs.Waiting.{unmarked}
use Rattle.slack_report.specs.Hazards.{AreMarked, has_hazard}

-- what is found by the waves and the mark of an instance's pins
pub hazard_is : (c : Circuit) (ws : Waves) (j : Instance) (waves : List (Wave Value))
    (marked : Option ℕ) (found : Option (ℕ × ℕ)) → waves ≡ pin_waves c ws j →
    marked ≡ marked_pin j → found ≡ hazard j.kind waves marked → is_some found ≡ has_hazard c ws j
hazard_is c ws j waves marked found shown mark is =
    ap is_some (is ∙ (λ i. hazard j.kind (shown i) (mark i)))

pub none_marked : (c : Circuit) (ws : Waves) → AreMarked c ws (replicate (length c.instances) false) 0
none_marked c ws = record {
  long = length-replicate (length c.instances) false;
  each = λ k j below is. absurd (omega (arith, below));
  rest = λ k past. unmarked (length c.instances) k;
}

-- past the last instance there is no other
pub marked_none : (c : Circuit) (ws : Waves) (marks : List Bool) (n : ℕ) → AreMarked c ws marks n →
    slice_get c.instances n ≡ None → AreMarked c ws marks (n + 1)
marked_none c ws marks n are none = record {
  long = are.long;
  each = λ k j below is. at k j below is (k == n) refl;
  rest = λ k past. are.rest k (omega (arith, past));
}
  where
    at : (k : ℕ) (j : Instance) → k < n + 1 → slice_get c.instances k ≡ Some j → (same : Bool) →
        (k == n) ≡ same → marked_in marks k ≡ has_hazard c ws j
    at k j below is true e =
        let one : None ≡ Some j = sym none ∙ ap (slice_get c.instances) (sym (eqb-true k n e)) ∙ is in
        absurd (cc one)
    at k j below is false e =
        are.each k j (let apart = eqb-false k n e in omega (arith, below, apart)) is

pub marked_more : (c : Circuit) (ws : Waves) (old new : List Bool) (n : ℕ) (one : Instance) →
    AreMarked c ws old n → slice_get c.instances n ≡ Some one → length new ≡ length old →
    marked_in new n ≡ has_hazard c ws one →
    ((k : ℕ) → ¬ (k ≡ n) → marked_in new k ≡ marked_in old k) → AreMarked c ws new (n + 1)
marked_more c ws old new n one are there long here other = record {
  long = long ∙ are.long;
  each = λ k j below is. at k j below is (k == n) refl;
  rest = λ k past.
      other k (λ same. omega (arith, past, same)) ∙ are.rest k (omega (arith, past));
}
  where
    at : (k : ℕ) (j : Instance) → k < n + 1 → slice_get c.instances k ≡ Some j → (same : Bool) →
        (k == n) ≡ same → marked_in new k ≡ has_hazard c ws j
    at k j below is true e =
        let same : k ≡ n = eqb-true k n e in
        let both : Some one ≡ Some j = sym there ∙ ap (slice_get c.instances) (sym same) ∙ is in
        ap (marked_in new) same ∙ here ∙ ap (has_hazard c ws) (same_Some one j both)
    at k j below is false e =
        let apart = eqb-false k n e in
        other k apart ∙ are.each k j (omega (arith, below, apart)) is

-- in the end all are
pub all_marked : (c : Circuit) (ws : Waves) (marks : List Bool) (n : ℕ) → AreMarked c ws marks n →
    length c.instances ≤ n → (k : ℕ) (j : Instance) → slice_get c.instances k ≡ Some j →
    marked_in marks k ≡ has_hazard c ws j
all_marked c ws marks n are past k j is =
    are.each k j (let below = slice_get_within c.instances k j is in omega (arith, below, past)) is

-- ---- waves in normal form

pub normal_more : (ws : Waves) (n : ℕ) (w : Wave Value) →
    ((i : ℕ) → i < n → IsNormal values (ws i)) → w ≡ ws n → IsNormal values w → (i : ℕ) →
    i < n + 1 → IsNormal values (ws i)
normal_more ws n w are is normal i below = at (i == n) refl
  where
    at : (same : Bool) → (i == n) ≡ same → IsNormal values (ws i)
    at true e =
        subst (λ (v : Wave Value). IsNormal values v) (is ∙ ap ws (sym (eqb-true i n e))) normal
    at false e = are i (let apart = eqb-false i n e in omega (arith, below, apart))
