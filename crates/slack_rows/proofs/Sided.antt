-- Whether limits are free and whether they are broken, of two sides together, as one case more comes limit by limit.
use Rattle.std.proofs.Common.{inl, inr, ◌≡◌, ℕ, zero, suc, ◌+◌, ◌-◌, ◌<◌, ◌≤◌, Bool, true, false, ◌&&◌, ◌||◌, cond, refl, sym, ap, subst, ◌∙◌, arith, List, [], ◌∷◌, ◌++◌, length, Option, Some, None}
use Rattle.std.specs.Prelude.{is_none, nat_le, slice_get, slice_index_or, slice_set}
use Rattle.std.proofs.lemmas.Bool.{cases_eq}
use Rattle.flat_circuit.specs.Circuit.{Circuit}
use Rattle.fixpoint_engine.specs.Waves.{Waves}
use Rattle.slack_rows.specs.declared.parameter.Parameter.{Parameter}
use Rattle.slack_rows.specs.declared.parameter.Subject.{Subject}
use Rattle.slack_rows.specs.declared.parameter.Word.{Word as Limit}
use Rattle.slack_rows.specs.declared.rows.Least.{Least}
use Rattle.slack_rows.specs.declared.slack.Slack.{Slack as Number}
use Rattle.slack_rows.specs.declared.slack.Slack.TheVariants.{NoNumber as NumberOfNone, Ticks as NumberOfTicks, Way as NumberOfWay}
use Rattle.slack_rows.specs.declared.slack.Slacks.{Slacks}
use Rattle.slack_rows.specs.declared.slack.Finding.{Finding as Found}
use Rattle.slack_rows.specs.Slack.{Finding, is_broken, is_free, is_less}
use Rattle.slack_rows.specs.Limit.{Case, least_finding, finding_case, finding_in}
use Rattle.slack_rows.specs.Rows.{all_limits, limit_with, partner}
use Rattle.slack_rows.specs.Known.{AreKnown, BreakAlike, BreaksBoth, IsAlike, IsLowered, IsLoweredBy, SlacksKnown, breaks, least_at, may_be_two}
use Rattle.slack_rows.specs.Views.{slack_by, slack_for, slack_finding}
use Rattle.slack_rows.proofs.Alike.{and_true, broken_lesser, exchanged, or_first, free_lesser, or_second}
use Rattle.slack_rows.proofs.Blocks.{before_it}
use Rattle.slack_rows.proofs.Broken.{less_breaks, more_breaks}
use Rattle.slack_rows.proofs.Keeping.{alike_now}
use Rattle.slack_rows.proofs.Stepwise.{IsAlikeIn, at_set, beside_set, some_same, within_list}
use Rattle.slack_rows.proofs.Findings.{least_map_more}

-- ---- one limit with what is told of it in a case more

or_none : (a : Bool) → a ≡ (a || false)
or_none true = refl
or_none false = refl

pub lowered_breaks : (sets new : List (ℕ × ℕ)) (old found : Option Least) (finding : Option Found) (case : ℕ) →
    IsLowered sets old finding case new found → breaks found ≡ (breaks old || is_broken (slack_finding finding))
lowered_breaks sets new old found None case is = ap breaks is.same ∙ or_none (breaks old)
lowered_breaks sets new None None (Some finding) case is = absurd is
lowered_breaks sets new None (Some found) (Some finding) case is = ap (λ (t : Found). is_broken (slack_by t.slack)) is.same_finding
lowered_breaks sets new (Some least) found (Some finding) case is =
    by (is_less (slack_by finding.slack) (slack_by least.finding.slack)) refl (is_less (slack_by least.finding.slack) (slack_by finding.slack)) found is
  where
    kept : is_less (slack_by finding.slack) (slack_by least.finding.slack) ≡ false →
        is_broken (slack_by least.finding.slack) ≡ (is_broken (slack_by least.finding.slack) || is_broken (slack_by finding.slack))
    kept more = or_first (is_broken (slack_by least.finding.slack)) (is_broken (slack_by finding.slack)) (more_breaks (slack_by finding.slack) (slack_by least.finding.slack) more)

    by : (a : Bool) → is_less (slack_by finding.slack) (slack_by least.finding.slack) ≡ a → (b : Bool) (some : Option Least) →
        IsLoweredBy a b sets least finding case new some → breaks some ≡ (is_broken (slack_by least.finding.slack) || is_broken (slack_by finding.slack))
    by true less b None lowered = absurd lowered
    by true less b (Some some) lowered =
        ap (λ (t : Found). is_broken (slack_by t.slack)) lowered.same_finding
        ∙ or_second (is_broken (slack_by least.finding.slack)) (is_broken (slack_by finding.slack)) (less_breaks (slack_by finding.slack) (slack_by least.finding.slack) less)
    by false more true some lowered = ap breaks lowered.same ∙ kept more
    by false more false None lowered = absurd lowered
    by false more false (Some some) lowered = ap (λ (t : Found). is_broken (slack_by t.slack)) lowered.same_finding ∙ kept more

pub lowered_free : (sets new : List (ℕ × ℕ)) (old found : Option Least) (finding : Option Found) (case : ℕ) →
    IsLowered sets old finding case new found → is_none found ≡ (is_none old && is_none finding)
lowered_free sets new old found None case is = ap (λ (o : Option Least). is_none o) is.same ∙ and_true (is_none old)
lowered_free sets new None None (Some finding) case is = absurd is
lowered_free sets new None (Some found) (Some finding) case is = refl
lowered_free sets new (Some least) found (Some finding) case is =
    by (is_less (slack_by finding.slack) (slack_by least.finding.slack)) (is_less (slack_by least.finding.slack) (slack_by finding.slack)) found is
  where
    by : (a b : Bool) (some : Option Least) → IsLoweredBy a b sets least finding case new some → is_none some ≡ false
    by true b None lowered = absurd lowered
    by true b (Some some) lowered = refl
    by false true some lowered = ap (λ (o : Option Least). is_none o) lowered.same
    by false false None lowered = absurd lowered
    by false false (Some some) lowered = refl

none_free : (o : Option Found) → is_none o ≡ is_free (slack_finding o)
none_free None = refl
none_free (Some finding) = by finding.slack
  where
    by : (n : Number) → false ≡ is_free (slack_by n)
    by (NumberOfNone reason) = refl
    by (NumberOfTicks n) = refl
    by (NumberOfWay n) = refl

-- ---- of two sides

regroup : (a b e d : Bool) → (((a || b) || e) || d) ≡ ((a || e) || (b || d))
regroup true b e d = refl
regroup false true true d = refl
regroup false true false d = refl
regroup false false e d = refl

three_ways : (a b e : Bool) → (a || (b || e)) ≡ ((a || b) || e)
three_ways true b e = refl
three_ways false b e = refl

pub at_back : (least : List (Option Least)) (i back : ℕ) → back ≤ i → least_at least i back ≡ slice_index_or least (i - back) None
at_back least i back from =
    let le : nat_le back i ≡ true = grind (arith, from) in
    ap (λ (b : Bool). cond b (slice_index_or least (i - back) None) None) le

read_same : (xs ys : List (Option Least)) (i : ℕ) → length xs ≡ length ys → slice_get xs i ≡ slice_get ys i → slice_index_or xs i None ≡ slice_index_or ys i None
read_same [] [] i long same = refl
read_same [] (y ∷ ys) i long same = absurd (omega (arith, long))
read_same (x ∷ xs) [] i long same = absurd (omega (arith, long))
read_same (x ∷ xs) (y ∷ ys) zero long same = some_same x y (Some x) refl same
read_same (x ∷ xs) (y ∷ ys) (suc i) long same = read_same xs ys i (omega (arith, long)) same

read_some : (xs : List (Option Least)) (i : ℕ) (x : Option Least) → slice_get xs i ≡ Some x → slice_index_or xs i None ≡ x
read_some [] i x at = absurd (cc)
read_some (y ∷ xs) zero x at = some_same y x (Some y) refl at
read_some (y ∷ xs) (suc i) x at = read_some xs i x at

module _ (c : Circuit) (cases : List Case) (one : Case) (limits : List Parameter) (are : limits ≡ all_limits c) where
  abbrev pub all : List Case
  all = cases ++ one ∷ []

  abbrev pub broken_in : List Case → Subject → Limit → Bool
  broken_in some subject word = is_broken (least_finding c some subject word).slack

  abbrev pub free_in : List Case → Subject → Limit → Bool
  free_in some subject word = is_free (least_finding c some subject word).slack

  broken_more : (subject : Subject) (word : Limit) →
      broken_in all subject word ≡ (broken_in cases subject word || is_broken (finding_in c one.waves subject word).slack)
  broken_more subject word =
      ap (λ (t : Finding). is_broken t.slack) (least_map_more (finding_case c subject word) cases one)
      ∙ broken_lesser (least_finding c cases subject word) (finding_case c subject word one)

  free_more : (subject : Subject) (word : Limit) →
      free_in all subject word ≡ (free_in cases subject word && is_free (finding_in c one.waves subject word).slack)
  free_more subject word =
      ap (λ (t : Finding). is_free t.slack) (least_map_more (finding_case c subject word) cases one)
      ∙ free_lesser (least_finding c cases subject word) (finding_case c subject word one)

  -- the first side has the case already, and the second comes next
  abbrev pub HalfBoth : List (Option Least) → ℕ → Parameter → Slacks → Option Limit → Type 0
  HalfBoth least place q slacks None = Unit {0}
  HalfBoth least place q slacks (Some before) =
      ((breaks (least_at least place 1) || breaks (least_at least place 0)) || is_broken (slack_finding (slack_for slacks q.word)))
      ≡ (broken_in all q.subject before || broken_in all q.subject q.word)

  abbrev pub IsHalf : List (Option Least) → ℕ → Option Subject → Slacks → Parameter → Option Limit → Type 0
  IsHalf least place subject slacks q None = Unit {0}
  IsHalf least place subject slacks q (Some before) = (subject ≡ Some q.subject) × HalfBoth least place q slacks (Some before)

  -- what is known where the limits up to a place have the new case too
  pub record PassedAlike (least : List (Option Least)) (place : ℕ) (subject : Option Subject) (slacks : Slacks) : Type 0 where
    pub count : length least ≡ length limits
    pub done_free : (i : ℕ) (q : Parameter) (found : Option Least) → i < place → slice_get limits i ≡ Some q →
        slice_get least i ≡ Some found → is_none found ≡ free_in all q.subject q.word
    pub left_free : (i : ℕ) (q : Parameter) (found : Option Least) → place ≤ i → slice_get limits i ≡ Some q →
        slice_get least i ≡ Some found → is_none found ≡ free_in cases q.subject q.word
    pub done_alone : (i : ℕ) (q : Parameter) (found : Option Least) → i < place → slice_get limits i ≡ Some q →
        slice_get least i ≡ Some found → may_be_two q.word ≡ false → breaks found ≡ broken_in all q.subject q.word
    pub left_alone : (i : ℕ) (q : Parameter) (found : Option Least) → place ≤ i → slice_get limits i ≡ Some q →
        slice_get least i ≡ Some found → may_be_two q.word ≡ false → breaks found ≡ broken_in cases q.subject q.word
    pub done_both : (i : ℕ) (q : Parameter) → i < place → slice_get limits i ≡ Some q → BreaksBoth c all least i q (partner q.word)
    pub left_both : (i : ℕ) (q : Parameter) → place < i → slice_get limits i ≡ Some q → BreaksBoth c cases least i q (partner q.word)
    pub half : (q : Parameter) → slice_get limits place ≡ Some q → IsHalf least place subject slacks q (partner q.word)

  pub alike_begin : (least : List (Option Least)) (numbers : List ℕ) (sets : List (ℕ × ℕ)) (slacks : Slacks) →
      AreKnown c cases limits least numbers sets → PassedAlike least 0 None slacks
  alike_begin least numbers sets slacks known =
      record {
        count = known.count;
        done_free = λ i q found below at is. absurd (omega (arith, below));
        left_free = λ i q found from at is. known.free i q found at is;
        done_alone = λ i q found below at is two. absurd (omega (arith, below));
        left_alone = λ i q found from at is two. known.alone i q found at is two;
        done_both = λ i q below at. absurd (omega (arith, below));
        left_both = λ i q from at. known.both i q at;
        half = λ q at. by q at (partner q.word) refl;
      }
    where
      by : (q : Parameter) → slice_get limits 0 ≡ Some q → (o : Option Limit) → partner q.word ≡ o → IsHalf least 0 None slacks q o
      by q at None is = tt
      by q at (Some before) is = let from = (before_it c limits are 0 q at before is).0 in absurd (omega (arith, from))

  pub alike_end : (least : List (Option Least)) (place : ℕ) (subject : Option Subject) (slacks : Slacks) → length limits ≤ place →
      PassedAlike least place subject slacks → IsAlikeIn c all limits least
  alike_end least place subject slacks past passed =
      record {
        free = λ i q found at is. (let below = within_list limits i q at in passed.done_free i q found (omega (arith, below, past)) at is);
        alone = λ i q found at is two. (let below = within_list limits i q at in passed.done_alone i q found (omega (arith, below, past)) at is two);
        both = λ i q at. (let below = within_list limits i q at in passed.done_both i q (omega (arith, below, past)) at);
      }

  -- ---- one limit more

  module _ (least next : List (Option Least)) (place : ℕ) (q : Parameter) (old found : Option Least) (subject : Option Subject)
      (before_slacks slacks : Slacks) (ws : Waves) (at : slice_get limits place ≡ Some q) (here : slice_get least place ≡ Some old)
      (is : next ≡ slice_set least place found) (long_next : length next ≡ length least) (passed : PassedAlike least place subject before_slacks)
      (same : subject ≡ Some q.subject → slacks ≡ before_slacks) (waves : one.waves ≡ ws) (known : SlacksKnown c ws (Some q.subject) slacks)
      (finding : Option Found) (finding_is : finding ≡ slack_for slacks q.word)
      (breaks_finding : breaks found ≡ (breaks old || is_broken (slack_finding finding))) (free_finding : is_none found ≡ (is_none old && is_none finding)) where
    breaks_more : breaks found ≡ (breaks old || is_broken (slack_finding (slack_for slacks q.word)))
    breaks_more = breaks_finding ∙ ap (λ (o : Option Found). breaks old || is_broken (slack_finding o)) finding_is

    free_here : is_none found ≡ (is_none old && is_none (slack_for slacks q.word))
    free_here = free_finding ∙ ap (λ (o : Option Found). is_none old && is_none o) finding_is

    within : place < length least
    within = within_list least place old here

    found_here : slice_get next place ≡ Some found
    found_here = ap (λ (xs : List (Option Least)). slice_get xs place) is ∙ at_set least place found within

    beside : (j : ℕ) → (place ≡ j → ⊥) → slice_get next j ≡ slice_get least j
    beside j other = ap (λ (xs : List (Option Least)). slice_get xs j) is ∙ beside_set least place j found other

    read_beside : (j : ℕ) → (place ≡ j → ⊥) → slice_index_or next j None ≡ slice_index_or least j None
    read_beside j other = read_same next least j long_next (beside j other)

    alike : IsAlike (finding_in c one.waves q.subject) slacks q.word
    alike = alike_now c ws one slacks limits place q are at waves known

    free_now : is_none found ≡ free_in all q.subject q.word
    free_now =
        let was = passed.left_free place q old (omega arith) at here in
        free_here ∙ (λ i. was i && (none_free (slack_for slacks q.word) ∙ alike.free) i) ∙ sym (free_more q.subject q.word)

    alone_now : may_be_two q.word ≡ false → breaks found ≡ broken_in all q.subject q.word
    alone_now two =
        let was = passed.left_alone place q old (omega arith) at here two in
        breaks_more ∙ (λ i. was i || alike.alone two i) ∙ sym (broken_more q.subject q.word)

    -- the second of two sides
    both_now : (o : Option Limit) → partner q.word ≡ o → BreaksBoth c all next place q o
    both_now None none = tt
    both_now (Some before) partner_is =
        let from = (before_it c limits are place q at before partner_is).0 in
        let half = subst (IsHalf least place subject before_slacks q) partner_is (passed.half q at) in
        let first : least_at next place 1 ≡ least_at least place 1 =
        at_back next place 1 from ∙ read_beside (place - 1) (λ e. absurd (omega (arith, e, from))) ∙ sym (at_back least place 1 from) in
        let none : place - 0 ≡ place = omega arith in
        let second : least_at next place 0 ≡ found =
        at_back next place 0 (omega arith) ∙ ap (λ (i : ℕ). slice_index_or next i None) none ∙ read_some next place found found_here in
        let was : least_at least place 0 ≡ old =
        at_back least place 0 (omega arith) ∙ ap (λ (i : ℕ). slice_index_or least i None) none ∙ read_some least place old here in
        (λ i. breaks (first i) || breaks (second i))
        ∙ ap (λ (b : Bool). breaks (least_at least place 1) || b) breaks_more
        ∙ three_ways (breaks (least_at least place 1)) (breaks old) (is_broken (slack_finding (slack_for slacks q.word)))
        ∙ (λ i. (breaks (least_at least place 1) || breaks (sym was i)) || is_broken (slack_finding (slack_for (same half.0 i) q.word)))
        ∙ half.1

    -- what the new one does not touch
    both_beside : (some : List Case) (i : ℕ) (r : Parameter) → slice_get limits i ≡ Some r → (place ≡ i → ⊥) → (place ≡ i - 1 → ⊥) →
        (o : Option Limit) → partner r.word ≡ o → BreaksBoth c some least i r o → BreaksBoth c some next i r o
    both_beside some i r at_i other before_other None none was = tt
    both_beside some i r at_i other before_other (Some before) partner_is was =
        let from = (before_it c limits are i r at_i before partner_is).0 in
        let first : least_at next i 1 ≡ least_at least i 1 =
        at_back next i 1 from ∙ read_beside (i - 1) before_other ∙ sym (at_back least i 1 from) in
        let none : i - 0 ≡ i = omega arith in
        let second : least_at next i 0 ≡ least_at least i 0 =
        at_back next i 0 (omega arith) ∙ ap (λ (k : ℕ). slice_index_or next k None) none ∙ read_beside i other
        ∙ sym (at_back least i 0 (omega arith) ∙ ap (λ (k : ℕ). slice_index_or least k None) none) in
        (λ k. breaks (first k) || breaks (second k)) ∙ was

    -- the second side comes next
    half_now : (r : Parameter) → slice_get limits (place + 1) ≡ Some r → (o : Option Limit) → partner r.word ≡ o →
        BreaksBoth c cases least (place + 1) r o → IsHalf next (place + 1) (Some q.subject) slacks r o
    half_now r at_r None none was = tt
    half_now r at_r (Some before) partner_is was =
        let stands = before_it c limits are (place + 1) r at_r before partner_is in
        let back : place + 1 - 1 ≡ place = omega arith in
        let same_q : q ≡ limit_with c r.subject before =
        some_same q (limit_with c r.subject before) (slice_get limits place) at (ap (slice_get limits) (sym back) ∙ stands.1) in
        let of_subject : q.subject ≡ r.subject = ap (λ (x : Parameter). x.subject) same_q in
        let of_word : q.word ≡ before = ap (λ (x : Parameter). x.word) same_q in
        let first : least_at next (place + 1) 1 ≡ found =
        at_back next (place + 1) 1 (omega arith) ∙ ap (λ (k : ℕ). slice_index_or next k None) back ∙ read_some next place found found_here in
        let was_first : least_at least (place + 1) 1 ≡ old =
        at_back least (place + 1) 1 (omega arith) ∙ ap (λ (k : ℕ). slice_index_or least k None) back ∙ read_some least place old here in
        let none : place + 1 - 0 ≡ place + 1 = omega arith in
        let second : least_at next (place + 1) 0 ≡ least_at least (place + 1) 0 =
        at_back next (place + 1) 0 (omega arith) ∙ ap (λ (k : ℕ). slice_index_or next k None) none
        ∙ read_beside (place + 1) (λ e. absurd (omega (arith, e)))
        ∙ sym (at_back least (place + 1) 0 (omega arith) ∙ ap (λ (k : ℕ). slice_index_or least k None) none) in
        let its = alike_now c ws one slacks limits (place + 1) r are at_r waves (subst (λ (s : Subject). SlacksKnown c ws (Some s) slacks) of_subject known) in
        let both = subst (BreakAlike (finding_in c one.waves r.subject) slacks r.word) partner_is its.both in (
          ap Some of_subject,
          (λ k. (breaks (first k) || breaks (second k)) || is_broken (slack_finding (slack_for slacks r.word)))
              ∙ ap (λ (b : Bool). (b || breaks (least_at least (place + 1) 0)) || is_broken (slack_finding (slack_for slacks r.word)))
              (breaks_more ∙ (λ k. breaks (sym was_first k) || is_broken (slack_finding (slack_for slacks (of_word k)))))
              ∙ regroup (breaks (least_at least (place + 1) 1)) (is_broken (slack_finding (slack_for slacks before))) (breaks (least_at least (place + 1) 0))
              (is_broken (slack_finding (slack_for slacks r.word)))
              ∙ (λ k. was k || both k)
              ∙ exchanged (broken_in cases r.subject before) (broken_in cases r.subject r.word) (is_broken (finding_in c one.waves r.subject before).slack)
              (is_broken (finding_in c one.waves r.subject r.word).slack)
              ∙ sym (λ k. broken_more r.subject before k || broken_more r.subject r.word k),
        )

    pub alike_more : PassedAlike next (place + 1) (Some q.subject) slacks
    alike_more =
        record {
          count = long_next ∙ passed.count;
          done_free = λ i r some below at_i known_i. elim (cases_eq place i) [
            | inl e ↦
                let same_q : q ≡ r = some_same q r (slice_get limits i) (ap (slice_get limits) (sym e) ∙ at) at_i in
                let same_found : found ≡ some = some_same found some (slice_get next i) (ap (slice_get next) (sym e) ∙ found_here) known_i in
                subst (λ (x : Parameter). is_none some ≡ free_in all x.subject x.word) same_q
                (subst (λ (o : Option Least). is_none o ≡ free_in all q.subject q.word) same_found free_now)
            | inr other ↦ passed.done_free i r some (omega (arith, below, other)) at_i (sym (beside i other) ∙ known_i)
          ];
          left_free = λ i r some from at_i known_i.
              (let other : place ≡ i → ⊥ = (λ e. absurd (omega (arith, e, from))) in
              passed.left_free i r some (omega (arith, from)) at_i (sym (beside i other) ∙ known_i));
          done_alone = λ i r some below at_i known_i two. elim (cases_eq place i) [
            | inl e ↦
                let same_q : q ≡ r = some_same q r (slice_get limits i) (ap (slice_get limits) (sym e) ∙ at) at_i in
                let same_found : found ≡ some = some_same found some (slice_get next i) (ap (slice_get next) (sym e) ∙ found_here) known_i in
                subst (λ (x : Parameter). breaks some ≡ broken_in all x.subject x.word) same_q
                (subst (λ (o : Option Least). breaks o ≡ broken_in all q.subject q.word) same_found
                (alone_now (ap (λ (x : Parameter). may_be_two x.word) same_q ∙ two)))
            | inr other ↦ passed.done_alone i r some (omega (arith, below, other)) at_i (sym (beside i other) ∙ known_i) two
          ];
          left_alone = λ i r some from at_i known_i two.
              (let other : place ≡ i → ⊥ = (λ e. absurd (omega (arith, e, from))) in
              passed.left_alone i r some (omega (arith, from)) at_i (sym (beside i other) ∙ known_i) two);
          done_both = λ i r below at_i. elim (cases_eq place i) [
            | inl e ↦
                let same_q : q ≡ r = some_same q r (slice_get limits i) (ap (slice_get limits) (sym e) ∙ at) at_i in
                subst (λ (k : ℕ). BreaksBoth c all next k r (partner r.word)) e
                (subst (λ (x : Parameter). BreaksBoth c all next place x (partner x.word)) same_q (both_now (partner q.word) refl))
            | inr other ↦ both_beside all i r at_i other (λ e. absurd (omega (arith, e, below, other))) (partner r.word) refl
                (passed.done_both i r (omega (arith, below, other)) at_i)
          ];
          left_both = λ i r from at_i.
              both_beside cases i r at_i (λ e. absurd (omega (arith, e, from))) (λ e. absurd (omega (arith, e, from))) (partner r.word) refl
              (passed.left_both i r (omega (arith, from)) at_i);
          half = λ r at_r. half_now r at_r (partner r.word) refl (passed.left_both (place + 1) r (omega arith) at_r);
        }
