-- How a search finds all nets that steps lead to, and no other.
use Rattle.std.proofs.Common.{◌≡◌, ℕ, zero, suc, ◌+◌, ◌<◌, ◌≤◌, ◌&&◌, ◌||◌, Bool, true, List, [], ◌∷◌, length, sym, ap, subst, ◌∙◌, arith, inl, inr, slice_get, Some, None}
use Rattle.std.specs.List.{Contains}
use Rattle.std.proofs.lemmas.Bool.{cases_eq, cases_lt, and_parts, and_from, or_cases, or_left, or_right}
use Rattle.std.proofs.lemmas.List.{get_or_default}
use Rattle.std.proofs.lemmas.Option.{slice_get_within, get_or_from_slice_get}
use Rattle.flat_circuit.specs.Name.{net_at}
use Rattle.fixpoint_engine.specs.Settled.{marked_in}
use Rattle.fixpoint_engine.specs.Worklist.{Queue, IsQueue}
use Rattle.fixpoint_engine.proofs.Waiting.{marked_below}
use Rattle.case_analysis.specs.Found.{Extends}
use Rattle.case_analysis.proofs.Coning.{found_marked}
use Rattle.drawing_notes.specs.Search.{Over, At_start, By_step, IsFound}

-- All that was marked at the start is found, all that is found may be reached, and what the first nets lead to is found.
pub record Closing (step : ℕ → ℕ → Bool) (within start : ℕ → Bool) (nets : ℕ) (q : Queue) (next : ℕ) : Type 0 where
  pub each_net : length q.marks ≡ nets
  pub inside : (i : ℕ) → marked_in q.marks i ≡ true → Over step within start i
  pub begun : (i : ℕ) → start i ≡ true → marked_in q.marks i ≡ true
  pub passed : next ≤ length q.nets
  pub closed : (k i : ℕ) → k < next → step (net_at q.nets k) i ≡ true → within i ≡ true → marked_in q.marks i ≡ true

module _ (step : ℕ → ℕ → Bool) (within start : ℕ → Bool) (nets : ℕ) where
  pub closing_start : (q : Queue) → length q.marks ≡ nets → start ≡ marked_in q.marks → Closing step within start nets q 0
  closing_start q each same = record {
    each_net = each;
    inside = λ i marked. At_start (ap (λ (s : ℕ → Bool). s i) same ∙ marked);
    begun = λ i is. sym (ap (λ (s : ℕ → Bool). s i) same) ∙ is;
    passed = omega arith;
    closed = λ k i below. absurd (omega arith);
  }

  pub closing_more : (q more : Queue) (next net : ℕ) → IsQueue q → slice_get q.nets next ≡ Some net → Closing step within start nets q next →
      Extends (λ i. within i && step net i) q more → Closing step within start nets more (next + 1)
  closing_more q more next net queue at closing extends = record {
    each_net = extends.adds.each_net ∙ closing.each_net;
    inside = λ i marked. elim (or_cases (marked_in q.marks i) (within i && step net i) (sym (extends.adds.marks i) ∙ marked)) [
      | inl before ↦ closing.inside i before
      | inr led ↦ let both = and_parts (within i) (step net i) led in By_step (closing.inside net (found_marked q next net queue at)) both.1 both.0
    ];
    begun = λ i is. extends.adds.marks i ∙ or_left _ _ (closing.begun i is);
    passed = let inside = slice_get_within q.nets next net at in let longer = extends.longer in omega (arith, inside, longer);
    closed = λ k i below led inside. extends.adds.marks i ∙ heard k i below (subst (λ n. step n i ≡ true) (extends.before k (reach k below)) led) inside;
  }
    where
      reach : (k : ℕ) → k < next + 1 → k < length q.nets
      reach k below = let inside = slice_get_within q.nets next net at in omega (arith, inside, below)

      heard : (k i : ℕ) → k < next + 1 → step (net_at q.nets k) i ≡ true → within i ≡ true → (marked_in q.marks i || (within i && step net i)) ≡ true
      heard k i below led inside = elim (cases_eq k next) [
        | inl same ↦ or_right _ _ (and_from (within i) (step net i) inside
            (subst (λ n. step n i ≡ true) (ap (net_at q.nets) same ∙ get_or_from_slice_get q.nets next net 0 at) led))
        | inr other ↦ or_left _ _ (closing.closed k i (omega (arith, below, other)) led inside)
      ]

  pub closing_end : (q : Queue) (next : ℕ) → IsQueue q → slice_get q.nets next ≡ None → Closing step within start nets q next →
      IsFound step within start (marked_in q.marks)
  closing_end q next queue none closing i = (closing.inside i, all)
    where
      whole : length q.nets ≤ next
      whole = elim (cases_lt next (length q.nets)) [
        | inl below ↦ absurd (some q.nets next below none)
        | inr past ↦ past
      ]
        where
          some : (xs : List ℕ) (k : ℕ) → k < length xs → slice_get xs k ≡ None → ⊥
          some [] k below none = omega arith
          some (x ∷ xs) zero below none = cc
          some (x ∷ xs) (suc k) below none = some xs k (omega arith) none

      led : (from j : ℕ) → Contains q.nets from → step from j ≡ true → within j ≡ true → marked_in q.marks j ≡ true
      led from j at leads inside =
          closing.closed at.0 j (let below = at.1 in omega (arith, below, whole)) (subst (λ n. step n j ≡ true) (sym (place q.nets from at)) leads) inside
        where
          place : (xs : List ℕ) (x : ℕ) → (at : Contains xs x) → net_at xs at.0 ≡ x
          place xs x at = get_or_default xs at.0 0 x at.1 ∙ at.2

      all : {j : ℕ} → Over step within start j → marked_in q.marks j ≡ true
      all (At_start {i = i} is) = closing.begun i is
      all (By_step {from = from} {i = i} inner leads inside) = led from i ((queue.are from).0 (all inner)) leads inside

-- a net that is found exists
pub found_below : (nets : ℕ) (q : Queue) (k net : ℕ) → IsQueue q → length q.marks ≡ nets → slice_get q.nets k ≡ Some net → net < nets
found_below nets q k net queue each at = let below = marked_below q.marks net (found_marked q k net queue at) in omega (arith, below, each)
