-- How a search finds the nets of a cone, and that it ends with all of them.
use Rattle.std.proofs.Common.{◌≡◌, ℕ, zero, suc, ◌+◌, ◌<◌, ◌≤◌, ◌==◌, ◌||◌, Bool, true, List, [], ◌∷◌, length, take, get_or, sym, ap, subst, ◌∙◌, arith, inl, inr, slice_get, Some, None}
use Rattle.std.specs.List.{Contains}
use Rattle.std.proofs.lemmas.Bool.{cases_eq, cases_lt, or_cases, or_left, or_right}
use Rattle.std.proofs.lemmas.List.{get_or_default}
use Rattle.std.proofs.lemmas.List.Elements.{Contains-get_or}
use Rattle.std.proofs.lemmas.List.Folds.{list_any_more}
use Rattle.std.proofs.lemmas.Option.{slice_get_within, get_or_from_slice_get}
use Rattle.flat_circuit.specs.declared.case.CaseValue.{CaseValue}
use Rattle.flat_circuit.specs.Circuit.{Circuit, driver}
use Rattle.flat_circuit.specs.Name.{net_at}
use Rattle.fixpoint_engine.specs.Settled.{marked_in}
use Rattle.fixpoint_engine.specs.Work.{hears_in}
use Rattle.fixpoint_engine.specs.Loops.{Hears}
use Rattle.fixpoint_engine.specs.Worklist.{Queue, IsQueue}
use Rattle.fixpoint_engine.proofs.Listening.{hears_same, same_order}
use Rattle.fixpoint_engine.proofs.Waiting.{marked_below}
use Rattle.case_analysis.specs.Case.{InCone, Is_set, Hears_one, IsCone, is_set}
use Rattle.case_analysis.specs.Found.{Extends}

-- ---- a set that is the same

pub set_same : (set other : ℕ → Bool) (old new : Queue) → Extends set old new → ((i : ℕ) → set i ≡ other i) → Extends other old new
set_same set other old new extends same = subst (λ (s : ℕ → Bool). Extends s old new) (λ k i. same i k) extends

-- ---- the search

-- The nets of the case are found, all that is found is of the cone, and what listens to the first nets is found.
pub record Closing (c : Circuit) (values : List CaseValue) (q : Queue) (next : ℕ) : Type 0 where
  pub each_net : length q.marks ≡ length c.nets
  pub inside : (i : ℕ) → marked_in q.marks i ≡ true → InCone c values i
  pub set : (i : ℕ) → is_set values i ≡ true → marked_in q.marks i ≡ true
  pub within : next ≤ length q.nets
  pub closed : (k i : ℕ) → k < next → Hears c (net_at q.nets k) i → marked_in q.marks i ≡ true

pub closing_start : (c : Circuit) (values : List CaseValue) (q : Queue) → length q.marks ≡ length c.nets → ((i : ℕ) → marked_in q.marks i ≡ is_set values i) → Closing c values q 0
closing_start c values q each marks = record {
  each_net = each;
  inside = λ i marked. Is_set (sym (marks i) ∙ marked);
  set = λ i is. marks i ∙ is;
  within = omega arith;
  closed = λ k i below. absurd (omega arith);
}

-- one value more of the case
pub set_more : (values items : List CaseValue) (k : ℕ) (d : CaseValue) (old new : Queue) → items ≡ values → k < length items → Extends (λ i. (get_or items k d).net == i) old new →
    ((i : ℕ) → marked_in old.marks i ≡ is_set (take k values) i) → (i : ℕ) → marked_in new.marks i ≡ is_set (take (k + 1) values) i
set_more values items k d old new same below extends marks i =
    let inside : k < length values = subst (λ (vs : List CaseValue). k < length vs) same below in
    extends.adds.marks i ∙ ap (λ b. b || ((get_or items k d).net == i)) (marks i)
    ∙ ap (λ (vs : List CaseValue). is_set (take k values) i || ((get_or vs k d).net == i)) same
    ∙ sym (list_any_more (λ (v : CaseValue). v.net == i) values k d inside)

turned_hears : (c : Circuit) (net i : ℕ) → hears_in (λ j. net == j) (driver c i) ≡ hears_in (λ j. j == net) (driver c i)
turned_hears c net i = hears_same (λ j. net == j) (λ j. j == net) (driver c i) (λ j. same_order net j)

pub found_marked : (q : Queue) (k net : ℕ) → IsQueue q → slice_get q.nets k ≡ Some net → marked_in q.marks net ≡ true
found_marked q k net queue at =
    (queue.are net).1 (subst (Contains q.nets) (get_or_from_slice_get q.nets k net 0 at) (Contains-get_or q.nets k 0 (slice_get_within q.nets k net at)))

pub closing_more : (c : Circuit) (values : List CaseValue) (q more : Queue) (next net : ℕ) → IsQueue q → slice_get q.nets next ≡ Some net → Closing c values q next →
    Extends (λ i. hears_in (λ j. net == j) (driver c i)) q more → Closing c values more (next + 1)
closing_more c values q more next net queue at closing extends = record {
  each_net = extends.adds.each_net ∙ closing.each_net;
  inside = λ i marked. elim (or_cases (marked_in q.marks i) (hears_in (λ j. net == j) (driver c i)) (sym (extends.adds.marks i) ∙ marked)) [
    | inl before ↦ closing.inside i before
    | inr hears ↦ Hears_one (closing.inside net (found_marked q next net queue at)) (sym (turned_hears c net i) ∙ hears)
  ];
  set = λ i is. extends.adds.marks i ∙ or_left _ _ (closing.set i is);
  within = let inside = slice_get_within q.nets next net at in let longer = extends.longer in omega (arith, inside, longer);
  closed = λ k i below hears. extends.adds.marks i ∙ heard k i below (subst (λ n. Hears c n i) (extends.before k (reach k below)) hears);
}
  where
    reach : (k : ℕ) → k < next + 1 → k < length q.nets
    reach k below = let inside = slice_get_within q.nets next net at in omega (arith, inside, below)

    heard : (k i : ℕ) → k < next + 1 → Hears c (net_at q.nets k) i → (marked_in q.marks i || hears_in (λ j. net == j) (driver c i)) ≡ true
    heard k i below hears = elim (cases_eq k next) [
      | inl same ↦ or_right _ _ (turned_hears c net i ∙ subst (λ n. Hears c n i) (ap (net_at q.nets) same ∙ get_or_from_slice_get q.nets next net 0 at) hears)
      | inr other ↦ or_left _ _ (closing.closed k i (omega (arith, below, other)) hears)
    ]

pub closing_end : (c : Circuit) (values : List CaseValue) (q : Queue) (next : ℕ) → IsQueue q → slice_get q.nets next ≡ None → Closing c values q next → IsCone c values (marked_in q.marks)
closing_end c values q next queue none closing i = (closing.inside i, all)
  where
    whole : length q.nets ≤ next
    whole = elim (cases_lt next (length q.nets)) [
      | inl below ↦ absurd (some q.nets next below none)
      | inr past ↦ past
    ]
      where
        some : (xs : List ℕ) (k : ℕ) → k < length xs → slice_get xs k ≡ None → ⊥
        some [] k below none = omega arith
        some (x ∷ xs) zero below none = cc
        some (x ∷ xs) (suc k) below none = some xs k (omega arith) none

    heard : (from j : ℕ) → Contains q.nets from → Hears c from j → marked_in q.marks j ≡ true
    heard from j at hears = closing.closed at.0 j (let below = at.1 in omega (arith, below, whole)) (subst (λ n. Hears c n j) (sym (place q.nets from at)) hears)
      where
        place : (xs : List ℕ) (x : ℕ) → (at : Contains xs x) → net_at xs at.0 ≡ x
        place xs x at = get_or_default xs at.0 0 x at.1 ∙ at.2

    all : {j : ℕ} → InCone c values j → marked_in q.marks j ≡ true
    all (Is_set {i = i} is) = closing.set i is
    all (Hears_one {from = from} {i = i} inner hears) = heard from i ((queue.are from).0 (all inner)) hears

-- a net that is found exists
pub found_below : (c : Circuit) (q : Queue) (k net : ℕ) → IsQueue q → length q.marks ≡ length c.nets → slice_get q.nets k ≡ Some net → net < length c.nets
found_below c q k net queue each at = let below = marked_below q.marks net (found_marked q k net queue at) in omega (arith, below, each)
