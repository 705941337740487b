-- The least of exact slacks, as one case more comes limit by limit.
use Rattle.std.proofs.Common.{inl, inr, ◌≡◌, ℕ, ◌+◌, ◌<◌, ◌≤◌, Bool, true, false, cond, refl, sym, ap, subst, ◌∙◌, arith, List, [], ◌∷◌, ◌++◌, map, length, Option, Some, None}
use Rattle.std.specs.Prelude.{fold, slice_get, slice_set}
use Rattle.std.proofs.lemmas.Bool.{cases_eq}
use Rattle.std.proofs.lemmas.List.{map-append}
use Rattle.std.proofs.lemmas.List.Sums.{fold_push}
use Rattle.flat_circuit.specs.Circuit.{Circuit}
use Rattle.fixpoint_engine.specs.Waves.{Waves}
use Rattle.slack_rows.specs.declared.parameter.Parameter.{Parameter}
use Rattle.slack_rows.specs.declared.parameter.Subject.{Subject}
use Rattle.slack_rows.specs.declared.rows.Least.{Least}
use Rattle.slack_rows.specs.declared.slack.Finding.{Finding as Found}
use Rattle.slack_rows.specs.declared.slack.Slacks.{Slacks}
use Rattle.slack_rows.specs.Exact.{AreOfSubject}
use Rattle.slack_rows.specs.Known.{AreKnown, AreOfCases, IsLowered, IsLoweredBy, IsOfCases, SlacksKnown, finding_least}
use Rattle.slack_rows.specs.Limit.{Case}
use Rattle.slack_rows.specs.Slack.{is_less}
use Rattle.slack_rows.specs.Views.{lesser_found, slack_by, slack_finding, slack_for}
use Rattle.slack_rows.proofs.Marking.{lesser_none, none_lesser}
use Rattle.slack_rows.proofs.Stepwise.{at_set, beside_set, some_same, within_list}

-- the least with that of a case more
pub lowered_is : (sets new : List (ℕ × ℕ)) (old found : Option Least) (finding : Option Found) (case : ℕ) →
    IsLowered sets old finding case new found → finding_least found ≡ lesser_found (finding_least old) finding
lowered_is sets new old found None case is = ap finding_least is.same ∙ sym (lesser_none (finding_least old))
lowered_is sets new None None (Some finding) case is = absurd is
lowered_is sets new None (Some found) (Some finding) case is =
    ap (λ (f : Found). Some f) is.same_finding ∙ sym (none_lesser (Some finding))
lowered_is sets new (Some least) found (Some finding) case is =
    by (is_less (slack_by finding.slack) (slack_by least.finding.slack)) (is_less (slack_by least.finding.slack) (slack_by finding.slack)) found is
  where
    by : (a b : Bool) (some : Option Least) → IsLoweredBy a b sets least finding case new some →
        finding_least some ≡ cond a (Some finding) (Some least.finding)
    by true b None lowered = absurd lowered
    by true b (Some some) lowered = ap (λ (f : Found). Some f) lowered.same_finding
    by false true some lowered = ap finding_least lowered.same
    by false false None lowered = absurd lowered
    by false false (Some some) lowered = ap (λ (f : Found). Some f) lowered.same_finding

cases_more : (c : Circuit) (subject : Subject) (cases : List Case) (each : List Slacks) (one : Case) (own : Slacks) →
    AreOfCases c subject cases each → SlacksKnown c one.waves (Some subject) own → AreOfSubject c one.waves subject own →
    AreOfCases c subject (cases ++ one ∷ []) (each ++ own ∷ [])
cases_more c subject [] [] one own are known exact = ((known, exact), tt)
cases_more c subject [] (x ∷ each) one own are known exact = absurd are
cases_more c subject (case ∷ cases) [] one own are known exact = absurd are
cases_more c subject (case ∷ cases) (x ∷ each) one own are known exact =
    (are.0, cases_more c subject cases each one own are.1 known exact)

pub no_cases : (c : Circuit) (q : Parameter) (found : Option Least) → found ≡ None → IsOfCases c [] q (finding_least found)
no_cases c q found none = record { each = []; are = tt; is = ap finding_least none }

module _ (c : Circuit) (cases : List Case) (one : Case) where
  one_more : (q : Parameter) (old new finding : Option Found) (own : Slacks) → IsOfCases c cases q old →
      SlacksKnown c one.waves (Some q.subject) own → AreOfSubject c one.waves q.subject own →
      finding ≡ slack_for own q.word → new ≡ lesser_found old finding → IsOfCases c (cases ++ one ∷ []) q new
  one_more q old new finding own so known exact finding_is is = record {
    each = so.each ++ own ∷ [];
    are = cases_more c q.subject cases so.each one own so.are known exact;
    is = is ∙ (λ i. lesser_found (so.is i) (finding_is i))
        ∙ sym (ap (fold lesser_found None) (map-append (λ (x : Slacks). slack_for x q.word) so.each (own ∷ []))
        ∙ fold_push lesser_found None (map (λ (x : Slacks). slack_for x q.word) so.each) (slack_for own q.word));
  }

  -- the limits up to a place have the new case too
  pub record PassedExactly (limits : List Parameter) (least : List (Option Least)) (place : ℕ) : Type 0 where
    pub done : (i : ℕ) (q : Parameter) (found : Option Least) → i < place → slice_get limits i ≡ Some q →
        slice_get least i ≡ Some found → IsOfCases c (cases ++ one ∷ []) q (finding_least found)
    pub left : (i : ℕ) (q : Parameter) (found : Option Least) → place ≤ i → slice_get limits i ≡ Some q →
        slice_get least i ≡ Some found → IsOfCases c cases q (finding_least found)

  pub exact_begin : (limits : List Parameter) (least : List (Option Least)) (numbers : List ℕ) (sets : List (ℕ × ℕ)) →
      AreKnown c cases limits least numbers sets → PassedExactly limits least 0
  exact_begin limits least numbers sets known = record {
    done = λ i q found below at is. absurd (omega (arith, below));
    left = λ i q found from at is. known.exact i q found at is;
  }

  pub exact_end : (limits : List Parameter) (least : List (Option Least)) (place : ℕ) → length limits ≤ place →
      PassedExactly limits least place → (i : ℕ) (q : Parameter) (found : Option Least) → slice_get limits i ≡ Some q →
      slice_get least i ≡ Some found → IsOfCases c (cases ++ one ∷ []) q (finding_least found)
  exact_end limits least place past passed i q found at is =
      let below = within_list limits i q at in passed.done i q found (omega (arith, below, past)) at is

  pub exact_more : (ws : Waves) (limits : List Parameter) (least next : List (Option Least)) (place : ℕ) (q : Parameter)
      (old found : Option Least) (finding : Option Found) (own : Slacks) → one.waves ≡ ws →
      slice_get limits place ≡ Some q → slice_get least place ≡ Some old → next ≡ slice_set least place found →
      SlacksKnown c ws (Some q.subject) own → AreOfSubject c ws q.subject own → finding ≡ slack_for own q.word →
      finding_least found ≡ lesser_found (finding_least old) finding → PassedExactly limits least place →
      PassedExactly limits next (place + 1)
  exact_more ws limits least next place q old found finding own waves at here is known exact finding_is lowered passed =
      let found_here : slice_get next place ≡ Some found =
      ap (λ (xs : List (Option Least)). slice_get xs place) is ∙ at_set least place found (within_list least place old here) in
      let beside : (j : ℕ) → (place ≡ j → ⊥) → slice_get next j ≡ slice_get least j =
      (λ j other. ap (λ (xs : List (Option Least)). slice_get xs j) is ∙ beside_set least place j found other) in
      let now : IsOfCases c (cases ++ one ∷ []) q (finding_least found) =
      one_more q (finding_least old) (finding_least found) finding own (passed.left place q old (omega arith) at here)
      (subst (λ (w : Waves). SlacksKnown c w (Some q.subject) own) (sym waves) known)
      (subst (λ (w : Waves). AreOfSubject c w q.subject own) (sym waves) exact) finding_is lowered in
      record {
        done = λ i p some below is_at is_some. elim (cases_eq place i) [
          | inl same ↦
              let same_q : q ≡ p = some_same q p (slice_get limits i) (ap (slice_get limits) (sym same) ∙ at) is_at in
              let same_found : found ≡ some =
              some_same found some (slice_get next i) (ap (slice_get next) (sym same) ∙ found_here) is_some in
              subst (λ (r : Parameter). IsOfCases c (cases ++ one ∷ []) r (finding_least some)) same_q
              (subst (λ (o : Option Least). IsOfCases c (cases ++ one ∷ []) q (finding_least o)) same_found now)
          | inr other ↦ passed.done i p some (omega (arith, below, other)) is_at (sym (beside i other) ∙ is_some)
        ];
        left = λ i p some from is_at is_some.
            (let other : place ≡ i → ⊥ = (λ same. absurd (omega (arith, same, from))) in
            passed.left i p some (omega (arith, from)) is_at (sym (beside i other) ∙ is_some));
      }
