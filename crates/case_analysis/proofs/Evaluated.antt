-- In a settled case each net has what its driver makes of the settled waves, in the cone of the case and outside of it.
use Rattle.std.proofs.Common.{◌≡◌, ℕ, zero, suc, ◌+◌, ◌==◌, ◌&&◌, ◌||◌, Bool, true, false, not, cond, List, [], ◌∷◌, refl, sym, ap, subst, ◌∙◌, eq-eqb, Option, Some, None, is_some}
use Rattle.std.proofs.lemmas.Bool.{or_left, or_right}
use Rattle.vector_names.specs.declared.bits.Target.{Target}
use Rattle.vector_names.specs.declared.bits.Target.TheVariants.{Net as OnNet, Constant}
use Rattle.element_kinds.specs.declared.kind.Kind.{Kind}
use Rattle.element_kinds.specs.Kinds.{listens}
use Rattle.flat_circuit.specs.declared.case.CaseValue.{CaseValue}
use Rattle.flat_circuit.specs.declared.instance.Pin.{Pin}
use Rattle.flat_circuit.specs.declared.instance.Instance.{Instance}
use Rattle.flat_circuit.specs.Circuit.{Circuit, driver, driver_at, instance_in}
use Rattle.flat_circuit.specs.Alike.{value_in}
use Rattle.fixpoint_engine.specs.Same.{same_wave_decides}
use Rattle.fixpoint_engine.specs.Waves.{Waves}
use Rattle.fixpoint_engine.specs.Rounds.{AreSame, evaluated, next, round, wave_from}
use Rattle.fixpoint_engine.specs.Start.{base_start, is_driven}
use Rattle.fixpoint_engine.specs.Work.{differs, hears_from, hears_in, is_on_any}
use Rattle.fixpoint_engine.specs.Loops.{Hears}
use Rattle.fixpoint_engine.proofs.Hearing.{instance_same}
use Rattle.fixpoint_engine.proofs.Reached.{inactive_stays, round_next}
use Rattle.case_analysis.specs.Base.{IsBase, base_round}
use Rattle.case_analysis.specs.Case.{Hears_one, IsCase, IsCone, Is_set, case_active, case_round, case_start, case_wave, is_set}
use Rattle.case_analysis.proofs.Together.{set_is}

-- ---- active nets, and others

-- a net that is not active keeps the wave of the start
kept_start : (c : Circuit) (active : ℕ → Bool) (start : Waves) (r i : ℕ) → active i ≡ false → round c active start r i ≡ start i
unfolding round
kept_start c active start zero i passive = refl
kept_start c active start (suc r) i passive =
    inactive_stays c active (round c active start r) i passive ∙ kept_start c active start r i passive

active_takes : (c : Circuit) (active : ℕ → Bool) (ws : Waves) (i : ℕ) → active i ≡ true → next c active ws i ≡ evaluated c ws i
unfolding next
active_takes c active ws i is = ap (λ (b : Bool). cond b (evaluated c ws i) (ws i)) is

-- If all rounds are as the last one, a net that is active if it is driven has what its driver makes.
still_evaluated : (c : Circuit) (active : ℕ → Bool) (start : Waves) (r i : ℕ) →
    AreSame (round c active start (suc r)) (round c active start r) → (is_driven c i ≡ true → active i ≡ true) →
    round c active start r i ≡ evaluated c (round c active start r) i
still_evaluated c active start r i still driven = by (driver_at c.nets i) refl
  where
    by : (found : Option ℕ) → driver_at c.nets i ≡ found → round c active start r i ≡ evaluated c (round c active start r) i
    by None at = sym (ap (λ (found : Option ℕ). wave_from c (round c active start r) (instance_in c found) (round c active start r i)) at)
    by (Some k) at =
        sym (still i) ∙ round_next c active start r i
        ∙ active_takes c active (round c active start r) i (driven (ap (λ (found : Option ℕ). is_some found) at))

-- ---- what an instance listens to

neither : (a b : Bool) → a ≡ false → b ≡ false → (a || b) ≡ false
neither a b first second = λ k. first k || second k

-- If each net that the pins listen to is out of a set, none of them listens to one of the set.
heard_none : (nets : ℕ → Bool) (kind : Kind) (place : ℕ) (ps : List Pin) →
    ((m : ℕ) → hears_from (λ i. i == m) kind place ps ≡ true → nets m ≡ false) → hears_from nets kind place ps ≡ false
heard_none nets kind place [] each = refl
heard_none nets kind place (p ∷ ps) each =
    neither (listens kind place && is_on_any nets p.target) (hears_from nets kind (place + 1) ps)
    (by (listens kind place) refl p.target refl)
    (heard_none nets kind (place + 1) ps (λ m heard.
    each m (or_right (listens kind place && is_on_any (λ i. i == m) p.target) (hears_from (λ i. i == m) kind (place + 1) ps) heard)))
  where
    by : (b : Bool) → listens kind place ≡ b → (t : Target) → p.target ≡ t → (b && is_on_any nets t) ≡ false
    by false quiet t at = refl
    by true heard (Constant one) at = refl
    by true heard (OnNet m) at =
        each m (or_left (listens kind place && is_on_any (λ i. i == m) p.target) (hears_from (λ i. i == m) kind (place + 1) ps)
        ((λ k. heard k && is_on_any (λ i. i == m) (at k)) ∙ eq-eqb m m refl))

same_differs : (ws vs : Waves) (m : ℕ) → ws m ≡ vs m → differs ws vs m ≡ false
same_differs ws vs m same = ap (λ (b : Bool). not b) ((same_wave_decides (ws m) (vs m)).1 same)

-- ---- outside of a cone

module _ (c : Circuit) (values : List CaseValue) (cone : ℕ → Bool) (is_cone : IsCone c values cone) (before : Waves) (r : ℕ) where
  unset : (i : ℕ) → cone i ≡ false → value_in values i ≡ None
  unset i out = by (value_in values i) refl
    where
      by : (found : Option Bool) → value_in values i ≡ found → found ≡ None
      by None at = refl
      by (Some one) at =
          let set : is_set values i ≡ true = sym (set_is values i) ∙ ap (λ (o : Option Bool). is_some o) at in
          let clash : false ≡ true = sym out ∙ (is_cone i).1 (Is_set set) in
          absurd (cc)

  outside : (i : ℕ) → cone i ≡ false → case_round c values cone before r i ≡ before i
  outside i out =
      kept_start c (case_active c cone) (case_start c values cone before) r i (ap (λ (b : Bool). b && is_driven c i) out)
      ∙ (λ k. case_wave c.header (unset i out k) (out k) (before i))

  -- nothing that its driver listens to is of the cone
  unheard : (i : ℕ) (j : Instance) → cone i ≡ false → driver c i ≡ Some j → hears_in (differs (case_round c values cone before r) before) (Some j) ≡ false
  unheard i j out at =
      heard_none (differs (case_round c values cone before r) before) j.kind 0 j.pins (λ m heard.
      by m heard (cone m) refl)
    where
      by : (m : ℕ) → hears_from (λ n. n == m) j.kind 0 j.pins ≡ true → (inside : Bool) → cone m ≡ inside →
          differs (case_round c values cone before r) before m ≡ false
      by m heard false is = same_differs (case_round c values cone before r) before m (outside m is)
      by m heard true is =
          let hears : Hears c m i = ap (hears_in (λ n. n == m)) at ∙ heard in
          let clash : false ≡ true = sym out ∙ (is_cone i).1 (Hears_one ((is_cone m).0 is) hears) in
          absurd (cc)

  outside_evaluated : (i : ℕ) → cone i ≡ false → before i ≡ evaluated c before i →
      case_round c values cone before r i ≡ evaluated c (case_round c values cone before r) i
  outside_evaluated i out settles = outside i out ∙ settles ∙ by (driver c i) refl
    where
      by : (found : Option Instance) → driver c i ≡ found →
          wave_from c before found (before i) ≡ wave_from c (case_round c values cone before r) found (case_round c values cone before r i)
      by None at = sym (outside i out)
      by (Some j) at = sym (instance_same c (case_round c values cone before r) before j (unheard i j out at))

-- ---- settled cases

pub settled_is_evaluated : (c : Circuit) (limit base r : ℕ) (before : Waves) (values : List CaseValue) (cone : ℕ → Bool) (ws : Waves) →
    IsBase c limit base before → IsCone c values cone → IsCase c values cone (base_round c base) limit r ws → (i : ℕ) → ws i ≡ evaluated c ws i
settled_is_evaluated c limit base r before values cone ws is_base is_cone is_case i =
    subst (λ (vs : Waves). vs i ≡ evaluated c vs i) (λ k m. sym (is_case.waves m) k) (by (cone i) refl)
  where
    by : (inside : Bool) → cone i ≡ inside →
        case_round c values cone (base_round c base) r i ≡ evaluated c (case_round c values cone (base_round c base) r) i
    by true inside =
        still_evaluated c (case_active c cone) (case_start c values cone (base_round c base)) r i is_case.settles.still
        (λ driven. λ k. inside k && driven k)
    by false out =
        outside_evaluated c values cone is_cone (base_round c base) r i out
        (still_evaluated c (is_driven c) (base_start c) base i is_base.settles.still (λ driven. driven))
