-- One case more, limit by limit.
use Rattle.std.proofs.Common.{inl, inr, ◌≡◌, ℕ, zero, suc, ◌+◌, ◌<◌, ◌≤◌, Bool, true, false, not, ◌||◌, refl, sym, ap, subst, ◌∙◌, arith, List, [], ◌∷◌, ◌++◌, map, length, Option, Some, None}
use Rattle.std.specs.Prelude.{is_none, slice_get, slice_set}
use Rattle.std.specs.List.{AllByRecursion, list_any}
use Rattle.std.proofs.lemmas.Bool.{cases_eq}
use Rattle.std.proofs.lemmas.List.{length-set, map-append}
use Rattle.scald_base.specs.Time.{period}
use Rattle.flat_circuit.specs.Circuit.{Circuit}
use Rattle.slack_rows.specs.declared.parameter.Parameter.{Parameter}
use Rattle.slack_rows.specs.declared.parameter.Subject.{Subject}
use Rattle.slack_rows.specs.declared.rows.Least.{Least}
use Rattle.slack_rows.specs.declared.slack.Finding.{Finding as Found}
use Rattle.slack_rows.specs.Slack.{is_broken, is_free, is_less}
use Rattle.slack_rows.specs.Limit.{Case, by_arrivals, least_finding, finding_case}
use Rattle.slack_rows.specs.Rows.{all_limits, partner}
use Rattle.slack_rows.specs.Known.{AreKnown, AreSets, BreaksBoth, IsKept, IsKnown, IsLowered, IsLoweredBy, IsNumbered, IsOfCases, IsSetWith, breaks, finding_least, is_sure, may_be_two, numbers_of, places_of}
use Rattle.slack_rows.specs.Views.{Tells, slack_by}
use Rattle.slack_rows.proofs.Casewise.{known_more}
use Rattle.slack_rows.proofs.Places.{number_within, places_same, sets_longer, sets_more}

-- ---- what is set at a place

pub at_set : {A : Type 0} (xs : List A) (i : ℕ) (v : A) → i < length xs → slice_get (slice_set xs i v) i ≡ Some v
at_set [] i v within = absurd (omega (arith, within))
at_set (x ∷ xs) zero v within = refl
at_set (x ∷ xs) (suc i) v within = at_set xs i v (omega (arith, within))

pub beside_set : {A : Type 0} (xs : List A) (i j : ℕ) (v : A) → (i ≡ j → ⊥) → slice_get (slice_set xs i v) j ≡ slice_get xs j
beside_set [] i j v other = refl
beside_set (x ∷ xs) zero zero v other = absurd (other refl)
beside_set (x ∷ xs) zero (suc j) v other = refl
beside_set (x ∷ xs) (suc i) zero v other = refl
beside_set (x ∷ xs) (suc i) (suc j) v other = beside_set xs i j v (λ same. other (ap suc same))

pub some_same : {A : Type 0} (a b : A) (o : Option A) → o ≡ Some a → o ≡ Some b → a ≡ b
some_same {A} a b o one other = by (sym one ∙ other)
  where
    item : A → Option A → A
    item d None = d
    item d (Some x) = x

    by : Some a ≡ Some b → a ≡ b
    by same = ap (item a) same

pub item_at : {A : Type 0} (xs : List A) (i : ℕ) → i < length xs → (x : A) × (slice_get xs i ≡ Some x)
item_at [] i within = absurd (omega (arith, within))
item_at (x ∷ xs) zero within = (x, refl)
item_at (x ∷ xs) (suc i) within = item_at xs i (omega (arith, within))

pub within_list : {A : Type 0} (xs : List A) (i : ℕ) (x : A) → slice_get xs i ≡ Some x → i < length xs
within_list [] i x at = absurd (cc)
within_list (y ∷ xs) zero x at = omega arith
within_list (y ∷ xs) (suc i) x at = let below = within_list xs i x at in omega (arith, below)

-- ---- what is sure

not_any : (a b : Bool) → not (a || b) ≡ true → (a ≡ false) × (not b ≡ true)
not_any false b is = (refl, is)
not_any true b is = absurd (cc)

pub sure_before : (c : Circuit) (cases : List Case) (one : Case) (subject : Subject) → is_sure c (cases ++ one ∷ []) subject ≡ true →
    is_sure c cases subject ≡ true
sure_before c [] one subject sure = refl
sure_before c (case ∷ cases) one subject sure =
    let parts = not_any (by_arrivals c case.waves subject) (list_any (λ (x : Case). by_arrivals c x.waves subject) (cases ++ one ∷ [])) sure in
    by (by_arrivals c case.waves subject) parts.0 (sure_before c cases one subject parts.1)
  where
    by : (b : Bool) → b ≡ false → is_sure c cases subject ≡ true →
        not (b || list_any (λ (x : Case). by_arrivals c x.waves subject) cases) ≡ true
    by false is rest = rest
    by true is rest = absurd (cc)

pub sure_here : (c : Circuit) (cases : List Case) (one : Case) (subject : Subject) → is_sure c (cases ++ one ∷ []) subject ≡ true →
    by_arrivals c one.waves subject ≡ false
sure_here c [] one subject sure = (not_any (by_arrivals c one.waves subject) false sure).0
sure_here c (case ∷ cases) one subject sure =
    sure_here c cases one subject
    (not_any (by_arrivals c case.waves subject) (list_any (λ (x : Case). by_arrivals c x.waves subject) (cases ++ one ∷ [])) sure).1

-- ---- what is known of other limits, as sets come

record Grown (sets new : List (ℕ × ℕ)) (found : Option Least) : Type 0 where
  are : AreSets new
  longer : length sets ≤ length new
  same : (own : ℕ) → own ≤ length sets → places_of new own ≡ places_of sets own
  numbered : IsNumbered new found

with_set : (sets new : List (ℕ × ℕ)) (set : ℕ × ℕ) (found : Least) → AreSets sets → set.0 ≤ length sets →
    IsSetWith sets set found.cases new → Grown sets new (Some found)
with_set sets new set found are within is =
    record {
      are = sets_more sets are set found.cases new within is;
      longer = sets_longer sets are set found.cases new is;
      same = λ own below. places_same sets are set found.cases new is own below;
      numbered = number_within sets are set found.cases new is;
    }

with_same : (sets new : List (ℕ × ℕ)) (least found : Option Least) → AreSets sets → IsNumbered sets least →
    IsKept sets least new found → Grown sets new found
with_same sets new least found are numbered is =
    record {
      are = subst AreSets (sym is.same_sets) are;
      longer = let long = ap (λ (some : List (ℕ × ℕ)). length some) is.same_sets in omega (arith, long);
      same = λ own below. ap (λ (some : List (ℕ × ℕ)). places_of some own) is.same_sets;
      numbered =
          subst (λ (some : List (ℕ × ℕ)). IsNumbered some found) (sym is.same_sets)
          (subst (IsNumbered sets) (sym is.same) numbered);
    }

grown : (sets new : List (ℕ × ℕ)) (least found : Option Least) (finding : Option Found) (case : ℕ) → AreSets sets →
    IsNumbered sets least → IsLowered sets least finding case new found → Grown sets new found
grown sets new least found None case are numbered is = with_same sets new least found are numbered is
grown sets new None None (Some finding) case are numbered is = absurd is
grown sets new None (Some found) (Some finding) case are numbered is =
    with_set sets new (0, case) found are (omega arith) is.set
grown sets new (Some least) found (Some finding) case are numbered is =
    by (is_less (slack_by finding.slack) (slack_by least.finding.slack)) (is_less (slack_by least.finding.slack) (slack_by finding.slack)) found is
  where
    by : (a b : Bool) (some : Option Least) → IsLoweredBy a b sets least finding case new some → Grown sets new some
    by true b None lowered = absurd lowered
    by true b (Some some) lowered = with_set sets new (0, case) some are (omega arith) lowered.set
    by false true some lowered = with_same sets new (Some least) some are numbered lowered
    by false false None lowered = absurd lowered
    by false false (Some some) lowered = with_set sets new (least.cases, case) some are numbered lowered.set

numbered_grown : (sets new : List (ℕ × ℕ)) (least : Option Least) → length sets ≤ length new → IsNumbered sets least → IsNumbered new least
numbered_grown sets new None longer numbered = tt
numbered_grown sets new (Some least) longer numbered = omega (arith, longer, numbered)

known_grown : (c : Circuit) (cases : List Case) (q : Parameter) (sets new : List (ℕ × ℕ)) (least found : Option Least) → Grown sets new found →
    IsNumbered sets least → IsKnown c cases sets q least → IsKnown c cases new q least
known_grown c cases q sets new None found more numbered known = known
known_grown c cases q sets new (Some least) found more numbered known =
    let same : places_of new least.cases ≡ places_of sets least.cases = more.same least.cases numbered in
    record {
      finding = known.finding;
      in_case = known.in_case;
      have_it = ap (numbers_of (map (λ (case : Case). case.number) cases)) same ∙ known.have_it;
      first = (known.first.0, same ∙ known.first.1);
      within = subst (AllByRecursion (λ place. place < length cases)) (sym same) known.within;
    }

-- ---- limit by limit

-- whatever arrivals say
pub record IsAlikeIn (c : Circuit) (cases : List Case) (limits : List Parameter) (least : List (Option Least)) : Type 0 where
  pub free : (i : ℕ) (q : Parameter) (found : Option Least) → slice_get limits i ≡ Some q →
      slice_get least i ≡ Some found → is_none found ≡ is_free (least_finding c cases q.subject q.word).slack
  pub alone : (i : ℕ) (q : Parameter) (found : Option Least) → slice_get limits i ≡ Some q →
      slice_get least i ≡ Some found → may_be_two q.word ≡ false →
      breaks found ≡ is_broken (least_finding c cases q.subject q.word).slack
  pub both : (i : ℕ) (q : Parameter) → slice_get limits i ≡ Some q → BreaksBoth c cases least i q (partner q.word)

module _ (c : Circuit) (cases : List Case) (one : Case) where
  -- what is known where the limits up to a place have the new case too
  pub record Passed (limits : List Parameter) (least : List (Option Least)) (sets : List (ℕ × ℕ)) (place : ℕ) : Type 0 where
    pub are_limits : limits ≡ all_limits c
    pub count : length least ≡ length limits
    pub are_sets : AreSets sets
    pub numbered : (i : ℕ) (found : Option Least) → slice_get least i ≡ Some found → IsNumbered sets found
    pub done : (i : ℕ) (q : Parameter) (found : Option Least) → i < place → slice_get limits i ≡ Some q →
        slice_get least i ≡ Some found → is_sure c (cases ++ one ∷ []) q.subject ≡ true → IsKnown c (cases ++ one ∷ []) sets q found
    pub left : (i : ℕ) (q : Parameter) (found : Option Least) → place ≤ i → slice_get limits i ≡ Some q →
        slice_get least i ≡ Some found → is_sure c cases q.subject ≡ true → IsKnown c cases sets q found

  pub passed_none : (limits : List Parameter) (least : List (Option Least)) (numbers : List ℕ) (sets : List (ℕ × ℕ)) →
      AreKnown c cases limits least numbers sets → Passed limits least sets 0
  passed_none limits least numbers sets known =
      record {
        are_limits = known.are_limits;
        count = known.count;
        are_sets = known.are_sets;
        numbered = known.numbered;
        done = λ i q found below at is sure. absurd (omega (arith, below));
        left = λ i q found from at is sure. known.each i q found at is sure;
      }

  pub passed_all : (limits : List Parameter) (least : List (Option Least)) (sets : List (ℕ × ℕ)) (place : ℕ) (numbers more : List ℕ) →
      length limits ≤ place → numbers ≡ map (λ (case : Case). case.number) cases → more ≡ numbers ++ one.number ∷ [] →
      Passed limits least sets place →
      ((i : ℕ) (q : Parameter) (found : Option Least) → slice_get limits i ≡ Some q → slice_get least i ≡ Some found →
      IsOfCases c (cases ++ one ∷ []) q (finding_least found)) →
      IsAlikeIn c (cases ++ one ∷ []) limits least → AreKnown c (cases ++ one ∷ []) limits least more sets
  passed_all limits least sets place numbers more past are is passed exact alike =
      record {
        are_limits = passed.are_limits;
        count = passed.count;
        are_numbers =
            is ∙ ap (λ (xs : List ℕ). xs ++ one.number ∷ []) are ∙ sym (map-append (λ (case : Case). case.number) cases (one ∷ []));
        are_sets = passed.are_sets;
        numbered = passed.numbered;
        exact = exact;
        each = λ i q found at known sure.
            (let below = within_list limits i q at in passed.done i q found (omega (arith, below, past)) at known sure);
        free = alike.free;
        alone = alike.alone;
        both = alike.both;
      }

  pub passed_more : (limits : List Parameter) (least next : List (Option Least)) (sets new : List (ℕ × ℕ)) (place : ℕ) (q : Parameter)
      (old found : Option Least) (finding : Option Found) (case : ℕ) →
      slice_get limits place ≡ Some q → slice_get least place ≡ Some old → next ≡ slice_set least place found → case ≡ length cases →
      (by_arrivals c one.waves q.subject ≡ false → Tells (period c.header) finding (finding_case c q.subject q.word one)) →
      IsLowered sets old finding case new found → Passed limits least sets place → Passed limits next new (place + 1)
  passed_more limits least next sets new place q old found finding case at here is last tells lowered passed =
      let numbered : IsNumbered sets old = passed.numbered place old here in
      let more : Grown sets new found = grown sets new old found finding case passed.are_sets numbered lowered in
      let within : place < length least = within_list least place old here in
      let found_here : slice_get next place ≡ Some found =
      ap (λ (xs : List (Option Least)). slice_get xs place) is ∙ at_set least place found within in
      let beside : (j : ℕ) → (place ≡ j → ⊥) → slice_get next j ≡ slice_get least j =
      (λ j other. ap (λ (xs : List (Option Least)). slice_get xs j) is ∙ beside_set least place j found other) in
      record {
        are_limits = passed.are_limits;
        count = ap (λ (xs : List (Option Least)). length xs) is ∙ length-set least place found ∙ passed.count;
        are_sets = more.are;
        numbered = λ i some known. elim (cases_eq place i) [
          | inl same ↦
              subst (IsNumbered new)
              (some_same found some (slice_get next i) (ap (slice_get next) (sym same) ∙ found_here) known)
              more.numbered
          | inr other ↦
              numbered_grown sets new some more.longer (passed.numbered i some (sym (beside i other) ∙ known))
        ];
        done = λ i p some below is_at known sure. elim (cases_eq place i) [
          | inl same ↦
              let same_q : q ≡ p = some_same q p (slice_get limits i) (ap (slice_get limits) (sym same) ∙ at) is_at in
              let same_found : found ≡ some = some_same found some (slice_get next i) (ap (slice_get next) (sym same) ∙ found_here) known in
              let sure_q : is_sure c (cases ++ one ∷ []) q.subject ≡ true =
              ap (λ (r : Parameter). is_sure c (cases ++ one ∷ []) r.subject) same_q ∙ sure in
              subst (λ (r : Parameter). IsKnown c (cases ++ one ∷ []) new r some) same_q
              (subst (IsKnown c (cases ++ one ∷ []) new q) same_found
              (known_more c cases one q sets new passed.are_sets old found finding case last numbered
              (tells (sure_here c cases one q.subject sure_q))
              (passed.left place q old (omega arith) at here (sure_before c cases one q.subject sure_q)) lowered))
          | inr other ↦
              let same : slice_get least i ≡ Some some = sym (beside i other) ∙ known in
              known_grown c (cases ++ one ∷ []) p sets new some found more (passed.numbered i some same)
              (passed.done i p some (omega (arith, below, other)) is_at same sure)
        ];
        left = λ i p some from is_at known sure.
            (let other : place ≡ i → ⊥ = (λ same. absurd (omega (arith, same, from))) in
            let same : slice_get least i ≡ Some some = sym (beside i other) ∙ known in
            known_grown c cases p sets new some found more (passed.numbered i some same)
            (passed.left i p some (omega (arith, from)) is_at same sure));
      }
