-- The least slack of a limit, with what is told of it in one case more.
use Rattle.std.proofs.Common.{◌≡◌, ℕ, suc, ◌+◌, ◌<◌, ◌≤◌, Bool, true, false, not, ◌&&◌, cond, refl, sym, ap, subst, ◌∙◌, arith, List, [], ◌∷◌, ◌++◌, append-nil, map, length, Option, Some, None}
use Rattle.std.specs.Prelude.{filter}
use Rattle.std.specs.List.{AllByRecursion}
use Rattle.std.proofs.lemmas.List.{get_or_push, length-append, length-map, map-append}
use Rattle.scald_base.specs.Time.{period}
use Rattle.flat_circuit.specs.Circuit.{Circuit}
use Rattle.slack_rows.specs.declared.parameter.Parameter.{Parameter}
use Rattle.slack_rows.specs.declared.rows.Least.{Least}
use Rattle.slack_rows.specs.declared.slack.Finding.{Finding as Found}
use Rattle.slack_rows.specs.Slack.{Slack, Free, Finding, is_less, lesser, finding_alone}
use Rattle.slack_rows.specs.Limit.{Case, has_slack, least_finding, same_slack, finding_case, worst}
use Rattle.slack_rows.specs.Known.{AreSets, IsFirst, IsJoined, IsKnown, IsLeast, IsLowered, IsLoweredBy, IsNumbered, numbers_of, places_of}
use Rattle.slack_rows.specs.Rows.{first_where, first_with}
use Rattle.slack_rows.specs.Views.{IsFinding, Tells, slack_by}
use Rattle.slack_rows.proofs.Comparing.{less_not, none_less, none_same}
use Rattle.slack_rows.proofs.Kept.{filter_more}
use Rattle.slack_rows.proofs.Ordered.{before_free, free_is_last}
use Rattle.slack_rows.proofs.Places.{numbers_kept, numbers_new, places_new, places_none, within_more, within_new}
use Rattle.slack_rows.proofs.Findings.{least_map_more}

abbrev number_of_case : Case → ℕ
number_of_case case = case.number

-- ---- the first that passes

first_kept : (test : Case → Bool) (cases : List Case) (one : Case) → first_where test cases < length cases →
    first_where test (cases ++ one ∷ []) ≡ first_where test cases
first_kept test [] one below = absurd (omega (arith, below))
first_kept test (case ∷ cases) one below = by (test case) below (first_kept test cases one)
  where
    by : (b : Bool) → cond b 0 (first_where test cases + 1) < suc (length cases) →
        (first_where test cases < length cases → first_where test (cases ++ one ∷ []) ≡ first_where test cases) →
        cond b 0 (first_where test (cases ++ one ∷ []) + 1) ≡ cond b 0 (first_where test cases + 1)
    by true small rest = refl
    by false small rest = ap (λ (n : ℕ). n + 1) (rest (omega (arith, small)))

first_new : (test : Case → Bool) (cases : List Case) (one : Case) → filter test cases ≡ [] → test one ≡ true →
    first_where test (cases ++ one ∷ []) ≡ length cases
first_new test [] one none passes = ap (λ (b : Bool). cond b 0 (0 + 1)) passes
first_new test (case ∷ cases) one none passes = by (test case) none (λ more. first_new test cases one more passes)
  where
    by : (b : Bool) → cond b (case ∷ filter test cases) (filter test cases) ≡ [] →
        (filter test cases ≡ [] → first_where test (cases ++ one ∷ []) ≡ length cases) →
        cond b 0 (first_where test (cases ++ one ∷ []) + 1) ≡ suc (length cases)
    by true is rest = absurd (cc)
    by false is rest = let same = rest is in omega (arith, same)

module _ (c : Circuit) (cases : List Case) (one : Case) (q : Parameter) where
  abbrev before : Finding
  before = least_finding c cases q.subject q.word

  abbrev here : Finding
  here = finding_case c q.subject q.word one

  abbrev after : Finding
  after = least_finding c (cases ++ one ∷ []) q.subject q.word

  -- ---- the least

  after_is : after ≡ lesser before here
  after_is = least_map_more (finding_case c q.subject q.word) cases one

  stays : is_less here.slack before.slack ≡ false → after ≡ before
  stays more = after_is ∙ ap (λ (b : Bool). cond b here before) more

  falls : is_less here.slack before.slack ≡ true → after ≡ here
  falls less = after_is ∙ ap (λ (b : Bool). cond b here before) less

  -- ---- the cases that have it

  abbrev have : Slack → List Case → List Case
  have slack some = filter (has_slack c q.subject q.word slack) some

  have_more : (slack : Slack) (b : Bool) → same_slack here.slack slack ≡ b →
      map number_of_case (have slack (cases ++ one ∷ [])) ≡ map number_of_case (have slack cases ++ cond b (one ∷ []) [])
  have_more slack b is =
      ap (map number_of_case) (filter_more (has_slack c q.subject q.word slack) cases one
      ∙ ap (λ (x : Bool). have slack cases ++ cond x (one ∷ []) []) is)

  differs : (a b : Bool) → b ≡ true → (not a && not b) ≡ false
  differs true b is = refl
  differs false b is = ap not is

  equals : (a b : Bool) → a ≡ false → b ≡ false → (not a && not b) ≡ true
  equals a b first second = ap (λ (x : Bool). not x && not b) first ∙ ap not second

  cases_stay : is_less here.slack before.slack ≡ false → is_less before.slack here.slack ≡ true →
      (worst c (cases ++ one ∷ []) q.subject q.word).cases ≡ (worst c cases q.subject q.word).cases
  cases_stay more less =
      ap (λ (finding : Finding). map number_of_case (have finding.slack (cases ++ one ∷ []))) (stays more)
      ∙ have_more before.slack false (differs (is_less here.slack before.slack) (is_less before.slack here.slack) less)
      ∙ ap (map number_of_case) (append-nil (have before.slack cases))

  cases_join : is_less here.slack before.slack ≡ false → is_less before.slack here.slack ≡ false →
      (worst c (cases ++ one ∷ []) q.subject q.word).cases ≡ (worst c cases q.subject q.word).cases ++ one.number ∷ []
  cases_join more less =
      ap (λ (finding : Finding). map number_of_case (have finding.slack (cases ++ one ∷ []))) (stays more)
      ∙ have_more before.slack true (equals (is_less here.slack before.slack) (is_less before.slack here.slack) more less)
      ∙ map-append number_of_case (have before.slack cases) (one ∷ [])

  cases_begin : is_less here.slack before.slack ≡ true →
      (worst c (cases ++ one ∷ []) q.subject q.word).cases ≡ one.number ∷ []
  cases_begin less =
      ap (λ (finding : Finding). map number_of_case (have finding.slack (cases ++ one ∷ []))) (falls less)
      ∙ have_more here.slack true (equals (is_less here.slack here.slack) (is_less here.slack here.slack) (less_not here.slack) (less_not here.slack))
      ∙ ap (λ (some : List Case). map number_of_case (some ++ one ∷ []))
      (none_same (finding_case c q.subject q.word) here.slack before.slack cases less
      (none_less (finding_case c q.subject q.word) (finding_alone Free) cases))

  -- ---- the first that has it

  first_stays : is_less here.slack before.slack ≡ false → first_with c cases q.subject q.word < length cases →
      first_with c (cases ++ one ∷ []) q.subject q.word ≡ first_with c cases q.subject q.word
  first_stays more below =
      ap (λ (finding : Finding). first_where (has_slack c q.subject q.word finding.slack) (cases ++ one ∷ [])) (stays more)
      ∙ first_kept (has_slack c q.subject q.word before.slack) cases one below

  first_begins : is_less here.slack before.slack ≡ true → first_with c (cases ++ one ∷ []) q.subject q.word ≡ length cases
  first_begins less =
      ap (λ (finding : Finding). first_where (has_slack c q.subject q.word finding.slack) (cases ++ one ∷ [])) (falls less)
      ∙ first_new (has_slack c q.subject q.word here.slack) cases one
      (none_same (finding_case c q.subject q.word) here.slack before.slack cases less
      (none_less (finding_case c q.subject q.word) (finding_alone Free) cases))
      (equals (is_less here.slack here.slack) (is_less here.slack here.slack) (less_not here.slack) (less_not here.slack))

  -- ---- their numbers

  numbers_more : map number_of_case (cases ++ one ∷ []) ≡ map number_of_case cases ++ one.number ∷ []
  numbers_more = map-append number_of_case cases (one ∷ [])

  count_more : length (cases ++ one ∷ []) ≡ length cases + 1
  count_more = length-append cases (one ∷ [])

  below_numbers : (places : List ℕ) → AllByRecursion (λ place. place < length cases) places →
      AllByRecursion (λ place. place < length (map number_of_case cases)) places
  below_numbers places all =
      subst (λ (n : ℕ). AllByRecursion (λ place. place < n) places) (sym (length-map cases number_of_case)) all

  -- ---- what is known

  module _ (sets new : List (ℕ × ℕ)) (are : AreSets sets) where
    below_all : (least : Least) → IsLeast c cases sets q least → first_with c cases q.subject q.word < length cases
    below_all least known =
        let below = (subst (AllByRecursion (λ place. place < length cases)) known.first.1 known.within).0 in
        let is = known.in_case in
        omega (arith, below, is)

    kept : (least : Least) → is_less here.slack before.slack ≡ false → is_less before.slack here.slack ≡ true → new ≡ sets →
        IsLeast c cases sets q least → IsLeast c (cases ++ one ∷ []) new q least
    kept least more less same known =
        record {
          finding = subst (IsFinding (period c.header) least.finding) (sym (stays more)) known.finding;
          in_case = first_stays more (below_all least known) ∙ known.in_case;
          have_it =
              ap (λ (numbers : List ℕ). numbers_of numbers (places_of new least.cases)) numbers_more
              ∙ ap (λ (some : List (ℕ × ℕ)). numbers_of (map number_of_case cases ++ one.number ∷ []) (places_of some least.cases)) same
              ∙ numbers_kept (map number_of_case cases) one.number (places_of sets least.cases) (below_numbers (places_of sets least.cases) known.within)
              ∙ known.have_it ∙ sym (cases_stay more less);
          first = (known.first.0, ap (λ (some : List (ℕ × ℕ)). places_of some least.cases) same ∙ known.first.1);
          within =
              subst (λ (n : ℕ). AllByRecursion (λ place. place < n) (places_of new least.cases)) (sym count_more)
              (subst (λ (some : List (ℕ × ℕ)). AllByRecursion (λ place. place < length cases + 1) (places_of some least.cases)) (sym same)
              (within_more (length cases) (places_of sets least.cases) known.within));
        }

    joined : (least found : Least) (case : ℕ) → case ≡ length cases → least.cases ≤ length sets →
        is_less here.slack before.slack ≡ false → is_less before.slack here.slack ≡ false →
        IsLeast c cases sets q least → IsJoined sets least case new found → IsLeast c (cases ++ one ∷ []) new q found
    joined least found case last numbered more less known is =
        let at : places_of new found.cases ≡ places_of sets least.cases ++ case ∷ [] =
        places_new sets are (least.cases, case) found.cases new numbered is.set in
        let places : List ℕ = places_of sets least.cases in
        record {
          finding =
              subst (IsFinding (period c.header) found.finding) (sym (stays more))
              (subst (λ (f : Found). IsFinding (period c.header) f before) (sym is.same_finding) known.finding);
          in_case = first_stays more (below_all least known) ∙ known.in_case ∙ sym is.same_case;
          have_it =
              ap (λ (numbers : List ℕ). numbers_of numbers (places_of new found.cases)) numbers_more
              ∙ ap (numbers_of (map number_of_case cases ++ one.number ∷ [])) at
              ∙ numbers_new (map number_of_case cases) one.number (places_of sets least.cases) case
              (below_numbers (places_of sets least.cases) known.within) (length-map cases number_of_case ∙ sym last)
              ∙ ap (λ (numbers : List ℕ). numbers ++ one.number ∷ []) known.have_it ∙ sym (cases_join more less);
          first = (
            known.first.0 ++ case ∷ [],
            at ∙ ap (λ (some : List ℕ). some ++ case ∷ []) known.first.1
                ∙ ap (λ (own : ℕ). own ∷ known.first.0 ++ case ∷ []) (sym is.same_case),
          );
          within =
              subst (λ (n : ℕ). AllByRecursion (λ place. place < n) (places_of new found.cases)) (sym count_more)
              (subst (AllByRecursion (λ place. place < length cases + 1)) (sym at)
              (subst (λ (own : ℕ). AllByRecursion (λ place. place < length cases + 1) (places_of sets least.cases ++ own ∷ [])) (sym last)
              (within_new (length cases) (places_of sets least.cases) known.within)));
        }

    begun : (finding : Found) (found : Least) (case : ℕ) → case ≡ length cases → IsFinding (period c.header) finding here →
        is_less here.slack before.slack ≡ true → IsFirst sets finding case new found → IsLeast c (cases ++ one ∷ []) new q found
    begun finding found case last tells less is =
        let at : places_of new found.cases ≡ case ∷ [] =
        places_new sets are (0, case) found.cases new (omega arith) is.set
        ∙ ap (λ (some : List ℕ). some ++ case ∷ []) (places_none sets) in
        record {
          finding =
              subst (IsFinding (period c.header) found.finding) (sym (falls less))
              (subst (λ (f : Found). IsFinding (period c.header) f here) (sym is.same_finding) tells);
          in_case = first_begins less ∙ sym last ∙ sym is.same_case;
          have_it =
              ap (λ (numbers : List ℕ). numbers_of numbers (places_of new found.cases)) numbers_more
              ∙ ap (numbers_of (map number_of_case cases ++ one.number ∷ [])) at
              ∙ ap (λ (n : ℕ). n ∷ []) (get_or_push (map number_of_case cases) one.number 0 case (length-map cases number_of_case ∙ sym last))
              ∙ sym (cases_begin less);
          first = ([], at ∙ ap (λ (own : ℕ). own ∷ []) (sym is.same_case));
          within =
              subst (λ (n : ℕ). AllByRecursion (λ place. place < n) (places_of new found.cases)) (sym count_more)
              (subst (AllByRecursion (λ place. place < length cases + 1)) (sym at)
              (subst (λ (own : ℕ). AllByRecursion (λ place. place < length cases + 1) (own ∷ [])) (sym last) (omega arith, tt)));
        }

    -- with what is told in the case more
    pub known_more : (least found : Option Least) (finding : Option Found) (case : ℕ) → case ≡ length cases →
        IsNumbered sets least → Tells (period c.header) finding here → IsKnown c cases sets q least →
        IsLowered sets least finding case new found → IsKnown c (cases ++ one ∷ []) new q found
    known_more None found None case last numbered tells known is =
        let more : is_less here.slack before.slack ≡ false =
        ap (λ (s : Slack). is_less s before.slack) tells ∙ free_is_last before.slack in
        subst (IsKnown c (cases ++ one ∷ []) new q) (sym is.same) (ap (λ (finding : Finding). finding.slack) (stays more) ∙ known)
    known_more (Some least) found None case last numbered tells known is =
        let more : is_less here.slack before.slack ≡ false =
        ap (λ (s : Slack). is_less s before.slack) tells ∙ free_is_last before.slack in
        let less : is_less before.slack here.slack ≡ true =
        ap (λ (s : Slack). is_less before.slack s) tells ∙ ap (λ (finding : Finding). is_less finding.slack Free) known.finding.is ∙ before_free least.finding.slack in
        subst (IsKnown c (cases ++ one ∷ []) new q) (sym is.same) (kept least more less is.same_sets known)
    known_more None None (Some finding) case last numbered tells known is = absurd is
    known_more None (Some found) (Some finding) case last numbered tells known is =
        begun finding found case last tells
        (ap (λ (s : Slack). is_less here.slack s) known ∙ ap (λ (t : Finding). is_less t.slack Free) tells.is ∙ before_free finding.slack) is
    known_more (Some least) found (Some finding) case last numbered tells known is =
        by (is_less (slack_by finding.slack) (slack_by least.finding.slack)) (is_less (slack_by least.finding.slack) (slack_by finding.slack))
        (ap (λ (t : Finding). is_less t.slack before.slack) tells.is ∙ ap (λ (t : Finding). is_less (slack_by finding.slack) t.slack) known.finding.is)
        (ap (λ (t : Finding). is_less before.slack t.slack) tells.is ∙ ap (λ (t : Finding). is_less t.slack (slack_by finding.slack)) known.finding.is)
        found is
      where
        by : (a b : Bool) → is_less here.slack before.slack ≡ a → is_less before.slack here.slack ≡ b → (some : Option Least) →
            IsLoweredBy a b sets least finding case new some → IsKnown c (cases ++ one ∷ []) new q some
        by true b less other None lowered = absurd lowered
        by true b less other (Some some) lowered = begun finding some case last tells less lowered
        by false true less other some lowered =
            subst (IsKnown c (cases ++ one ∷ []) new q) (sym lowered.same) (kept least less other lowered.same_sets known)
        by false false less other None lowered = absurd lowered
        by false false less other (Some some) lowered = joined least some case last numbered less other known lowered
