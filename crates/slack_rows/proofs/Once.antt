-- How many limits are broken, and which of them are told once.
use Rattle.std.proofs.Common.{inl, inr, ◌≡◌, ◌⊎◌, ℕ, zero, suc, ◌+◌, ◌-◌, ◌<◌, ◌≤◌, Bool, true, false, not, ◌&&◌, ◌||◌, cond, refl, sym, ap, subst, ◌∙◌, arith, List, [], ◌∷◌, ◌++◌, length, map, take, Option, Some, None}
use Rattle.std.specs.Prelude.{◌==◌, filter, is_some, slice_get, slice_index_or}
use Rattle.std.specs.List.{count_by, flat_map, list_any}
use Rattle.std.proofs.lemmas.Bool.{or_left, or_right}
use Rattle.std.proofs.lemmas.List.{length-map, map-append}
use Rattle.std.proofs.lemmas.List.Sums.{count_by_more_no, count_by_more_yes, length-filter}
use Rattle.scald_base.specs.Time.{period}
use Rattle.flat_circuit.specs.Circuit.{Circuit}
use Rattle.slack_rows.specs.declared.parameter.Parameter.{Parameter}
use Rattle.slack_rows.specs.declared.parameter.Subject.{Subject}
use Rattle.slack_rows.specs.declared.parameter.Word.{Word as Limit}
use Rattle.slack_rows.specs.declared.rows.Least.{Least}
use Rattle.slack_rows.specs.Slack.{Slack, Free, Ticks, Way, NoNumber, Finding, is_broken, is_free}
use Rattle.slack_rows.specs.Limit.{Case, least_finding}
use Rattle.slack_rows.specs.Rows.{Row, all_limits, all_rows, are_one_region, broken_count, first_with, have_no_number, is_own_row, is_same_pin, is_reported, is_reported_by, limit_with, limits_at, limits_of, own_rows, partner, row, slack_of, some_broken, subjects, reported_once}
use Rattle.slack_rows.specs.Known.{AreKnown, BreaksBoth, IsKnown, breaks, in_one_case, is_sure, least_at, may_be_two, finding_least}
use Rattle.slack_rows.specs.Views.{Tells}
use Rattle.slack_rows.proofs.Blocks.{after_it, before_it, follows}
use Rattle.slack_rows.proofs.Gathering.{filter_both, filter_through}
use Rattle.slack_rows.proofs.Levels.{read_at}
use Rattle.slack_rows.proofs.Sided.{at_back}
use Rattle.slack_rows.proofs.Stepwise.{item_at, some_same, within_list}

-- ---- some of a list

any_at : {A : Type 0} (test : A → Bool) (xs : List A) (i : ℕ) (x : A) → slice_get xs i ≡ Some x → test x ≡ true → list_any test xs ≡ true
any_at test [] i x at passes = absurd (cc)
any_at test (y ∷ xs) zero x at passes =
    let same = some_same y x (Some y) refl at in or_left (test y) (list_any test xs) (ap test same ∙ passes)
any_at test (y ∷ xs) (suc i) x at passes = or_right (test y) (list_any test xs) (any_at test xs i x at passes)

record IsSomeAt {A : Type 0} (test : A → Bool) (xs : List A) : Type 0 where
  i : ℕ
  item : A
  at : slice_get xs i ≡ Some item
  passes : test item ≡ true

some_at : {A : Type 0} (test : A → Bool) (xs : List A) → list_any test xs ≡ true → IsSomeAt test xs
some_at test [] any = absurd (cc)
some_at test (x ∷ xs) any = by (test x) refl any (λ more. some_at test xs more)
  where
    by : (b : Bool) → test x ≡ b → (b || list_any test xs) ≡ true → (list_any test xs ≡ true → IsSomeAt test xs) → IsSomeAt test (x ∷ xs)
    by true is some rest = record { i = 0; item = x; at = refl; passes = is }
    by false is some rest = let found = rest some in record { i = suc found.i; item = found.item; at = found.at; passes = found.passes }

any_index : (least : List (Option Least)) (i : ℕ) → breaks (slice_index_or least i None) ≡ true → list_any breaks least ≡ true
any_index [] i broken = absurd (cc)
any_index (found ∷ least) zero broken = or_left (breaks found) (list_any breaks least) broken
any_index (found ∷ least) (suc i) broken = or_right (breaks found) (list_any breaks least) (any_index least i broken)

or_cases : (a b : Bool) → (a || b) ≡ true → (a ≡ true) ⊎ (b ≡ true)
or_cases true b is = inl refl
or_cases false b is = inr is

both_ways : (a b : Bool) → (a ≡ true → b ≡ true) → (b ≡ true → a ≡ true) → a ≡ b
both_ways true b one other = sym (one refl)
both_ways false true one other = other refl
both_ways false false one other = refl

index_is : (xs : List (Option Least)) (i : ℕ) (x : Option Least) → slice_get xs i ≡ Some x → slice_index_or xs i None ≡ x
index_is xs i x at = some_same (slice_index_or xs i None) x (slice_get xs i) (read_at xs i None (within_list xs i x at)) at

-- ---- some limit is broken

module _ (c : Circuit) (cases : List Case) (limits : List Parameter) (least : List (Option Least)) (numbers : List ℕ) (sets : List (ℕ × ℕ))
    (known : AreKnown c cases limits least numbers sets) where
  abbrev is_broken_limit : Parameter → Bool
  is_broken_limit q = is_broken (least_finding c cases q.subject q.word).slack

  first_back : (i : ℕ) → 1 ≤ i → least_at least i 1 ≡ slice_index_or least (i - 1) None
  first_back i from = at_back least i 1 from

  own_back : (i : ℕ) → least_at least i 0 ≡ slice_index_or least i None
  own_back i = let none : i - 0 ≡ i = omega arith in at_back least i 0 (omega arith) ∙ ap (λ (k : ℕ). slice_index_or least k None) none

  broken_back : (i back : ℕ) → back ≤ i → breaks (least_at least i back) ≡ true → list_any breaks least ≡ true
  broken_back i back from broken = any_index least (i - back) (ap breaks (sym (at_back least i back from)) ∙ broken)

  pair_at : (i : ℕ) (q : Parameter) → slice_get limits i ≡ Some q → (before : Limit) → partner q.word ≡ Some before →
      BreaksBoth c cases least i q (Some before)
  pair_at i q at before is = subst (BreaksBoth c cases least i q) is (known.both i q at)

  to_finding : (i : ℕ) (q : Parameter) (found : Option Least) → slice_get limits i ≡ Some q → slice_get least i ≡ Some found →
      breaks found ≡ true → list_any is_broken_limit limits ≡ true
  to_finding i q found at here broken = by (may_be_two q.word) refl (partner q.word) refl
    where
      own : breaks (least_at least i 0) ≡ true
      own = ap breaks (own_back i ∙ index_is least i found here) ∙ broken

      either : (before : Limit) → partner q.word ≡ Some before →
          (is_broken_limit (limit_with c q.subject before) ≡ true) ⊎ (is_broken_limit q ≡ true) → list_any is_broken_limit limits ≡ true
      either before is (inl first) =
          any_at is_broken_limit limits (i - 1) (limit_with c q.subject before) (before_it c limits known.are_limits i q at before is).1 first
      either before is (inr second) = any_at is_broken_limit limits i q at second

      or_after : (after : Limit) → slice_get limits (i + 1) ≡ Some (limit_with c q.subject after) →
          (is_broken_limit q ≡ true) ⊎ (is_broken_limit (limit_with c q.subject after) ≡ true) → list_any is_broken_limit limits ≡ true
      or_after after at_next (inl first) = any_at is_broken_limit limits i q at first
      or_after after at_next (inr second) = any_at is_broken_limit limits (i + 1) (limit_with c q.subject after) at_next second

      by : (b : Bool) → may_be_two q.word ≡ b → (o : Option Limit) → partner q.word ≡ o → list_any is_broken_limit limits ≡ true
      by false two o is = any_at is_broken_limit limits i q at (sym (known.alone i q found at here two) ∙ broken)
      by true two (Some before) is =
          either before is
          (or_cases (is_broken_limit (limit_with c q.subject before)) (is_broken_limit q)
          (sym (pair_at i q at before is) ∙ or_right (breaks (least_at least i 1)) (breaks (least_at least i 0)) own))
      by true two None is =
          let (after, follows_is, back_is) = follows q.word two is in
          let at_next = after_it c limits known.are_limits i q at after follows_is in
          let next : Parameter = limit_with c q.subject after in
          let back : i + 1 - 1 ≡ i = omega arith in
          let first : breaks (least_at least (i + 1) 1) ≡ true =
          ap breaks (first_back (i + 1) (omega arith) ∙ ap (λ (k : ℕ). slice_index_or least k None) back ∙ index_is least i found here) ∙ broken in
          or_after after at_next
          (or_cases (is_broken_limit q) (is_broken_limit (limit_with c q.subject after))
          (sym (pair_at (i + 1) (limit_with c q.subject after) at_next q.word back_is)
          ∙ or_left (breaks (least_at least (i + 1) 1)) (breaks (least_at least (i + 1) 0)) first))

  to_found : (i : ℕ) (q : Parameter) → slice_get limits i ≡ Some q → is_broken_limit q ≡ true → list_any breaks least ≡ true
  to_found i q at broken = by (may_be_two q.word) refl (partner q.word) refl
    where
      of_pair : (k : ℕ) → 1 ≤ k → (breaks (least_at least k 1) ≡ true) ⊎ (breaks (least_at least k 0) ≡ true) → list_any breaks least ≡ true
      of_pair k from (inl first) = broken_back k 1 from first
      of_pair k from (inr second) = broken_back k 0 (omega arith) second

      by : (b : Bool) → may_be_two q.word ≡ b → (o : Option Limit) → partner q.word ≡ o → list_any breaks least ≡ true
      by false two o is =
          let below = within_list limits i q at in
          let long = known.count in
          let found = item_at least i (omega (arith, below, long)) in
          any_at breaks least i found.0 found.1 (known.alone i q found.0 at found.1 two ∙ broken)
      by true two (Some before) is =
          of_pair i (before_it c limits known.are_limits i q at before is).0
          (or_cases (breaks (least_at least i 1)) (breaks (least_at least i 0))
          (pair_at i q at before is ∙ or_right (is_broken_limit (limit_with c q.subject before)) (is_broken_limit q) broken))
      by true two None is =
          let (after, follows_is, back_is) = follows q.word two is in
          let at_next = after_it c limits known.are_limits i q at after follows_is in
          of_pair (i + 1) (omega arith)
          (or_cases (breaks (least_at least (i + 1) 1)) (breaks (least_at least (i + 1) 0))
          (pair_at (i + 1) (limit_with c q.subject after) at_next q.word back_is
          ∙ or_left (is_broken_limit q) (is_broken_limit (limit_with c q.subject after)) broken))

  pub all_broken : list_any breaks least ≡ some_broken c cases
  all_broken =
      both_ways (list_any breaks least) (list_any is_broken_limit limits)
      (λ any.
      (let found = some_at breaks least any in
      let below = within_list least found.i found.item found.at in
      let long = known.count in
      let q = item_at limits found.i (omega (arith, below, long)) in
      to_finding found.i q.0 found.item q.1 found.at found.passes))
      (λ any. (let found = some_at is_broken_limit limits any in to_found found.i found.item found.at found.passes))
      ∙ ap (list_any is_broken_limit) known.are_limits

  -- ---- told once

  -- what is known of a limit, where arrivals do not decide
  tells_at : (i : ℕ) (q : Parameter) → slice_get limits i ≡ Some q → is_sure c cases q.subject ≡ true →
      IsKnown c cases sets q (slice_index_or least i None)
  tells_at i q at sure =
      let below = within_list limits i q at in
      let long = known.count in
      known.each i q (slice_index_or least i None) at (read_at least i None (omega (arith, below, long))) sure

  is_known_limit : (q : Parameter) (found : Option Least) → IsKnown c cases sets q found →
      Tells (period c.header) (finding_least found) (least_finding c cases q.subject q.word)
  is_known_limit q None is = is
  is_known_limit q (Some found) is = is.finding

  -- what nothing can break is not told with another one
  free_first : (same : Bool) (a t : Finding) → a.slack ≡ Free → reported_once (period c.header) same a t ≡ false
  free_first same a t free =
      (λ i. have_no_number (free i) t.slack || (is_broken (free i) && (is_broken t.slack && (same && (is_same_pin a t
      && are_one_region (period c.header) a.place t.place)))))

  free_second : (same : Bool) (a t : Finding) → t.slack ≡ Free → reported_once (period c.header) same a t ≡ false
  free_second same a t free =
      (λ i. have_no_number a.slack (free i) || (is_broken a.slack && (is_broken (free i) && (same && (is_same_pin a t
      && are_one_region (period c.header) a.place t.place)))))
      ∙ by a.slack
    where
      by : (s : Slack) → (have_no_number s Free || (is_broken s && false)) ≡ false
      by Free = refl
      by (Ticks n) = none (is_broken (Ticks n))
        where
          none : (b : Bool) → (b && false) ≡ false
          none true = refl
          none false = refl
      by (Way n) = refl
      by NoNumber = refl

  -- by which case they are told
  one_case : (q r : Parameter) (found other : Option Least) → IsKnown c cases sets q found → IsKnown c cases sets r other →
      (a t : Finding) → Tells (period c.header) (finding_least found) a → Tells (period c.header) (finding_least other) t →
      reported_once (period c.header) (in_one_case found other) a t
      ≡ reported_once (period c.header) (first_with c cases q.subject q.word == first_with c cases r.subject r.word) a t
  one_case q r (Some found) (Some other) is is_other a t tells tells_other =
      (λ i. reported_once (period c.header) (sym is.in_case i == sym is_other.in_case i) a t)
  one_case q r None other is is_other a t tells tells_other =
      free_first false a t tells ∙ sym (free_first (first_with c cases q.subject q.word == first_with c cases r.subject r.word) a t tells)
  one_case q r (Some found) None is is_other a t tells tells_other =
      free_second false a t tells_other ∙ sym (free_second (first_with c cases q.subject q.word == first_with c cases r.subject r.word) a t tells_other)

  pub finding_at : (i : ℕ) (q : Parameter) (finding : Bool) → slice_get limits i ≡ Some q → is_sure c cases q.subject ≡ true →
      is_some (partner q.word) ≡ true →
      ((a t : Finding) → Tells (period c.header) (finding_least (least_at least i 1)) a →
      Tells (period c.header) (finding_least (least_at least i 0)) t →
      finding ≡ reported_once (period c.header) (in_one_case (least_at least i 1) (least_at least i 0)) a t) →
      finding ≡ is_reported c cases (row c cases q.subject q.word)
  finding_at i q finding at sure second is = by (partner q.word) refl second
    where
      by : (o : Option Limit) → partner q.word ≡ o → is_some o ≡ true → finding ≡ is_reported_by c cases (row c cases q.subject q.word) o
      by None none some = absurd (cc)
      by (Some before) partner_is some =
          let stands = before_it c limits known.are_limits i q at before partner_is in
          let b : Parameter = limit_with c q.subject before in
          let known_first : IsKnown c cases sets (limit_with c q.subject before) (least_at least i 1) =
          subst (IsKnown c cases sets (limit_with c q.subject before)) (sym (first_back i stands.0)) (tells_at (i - 1) (limit_with c q.subject before) stands.1 sure) in
          let known_own : IsKnown c cases sets q (least_at least i 0) =
          subst (IsKnown c cases sets q) (sym (own_back i)) (tells_at i q at sure) in
          let first = is_known_limit (limit_with c q.subject before) (least_at least i 1) known_first in
          let own = is_known_limit q (least_at least i 0) known_own in
          is (least_finding c cases q.subject before) (least_finding c cases q.subject q.word) first own
          ∙ one_case (limit_with c q.subject before) q (least_at least i 1) (least_at least i 0) known_first known_own
          (least_finding c cases q.subject before) (least_finding c cases q.subject q.word) first own

  pub not_second : (q : Parameter) → is_some (partner q.word) ≡ false → false ≡ is_reported c cases (row c cases q.subject q.word)
  not_second q none = by (partner q.word) none
    where
      by : (o : Option Limit) → is_some o ≡ false → false ≡ is_reported_by c cases (row c cases q.subject q.word) o
      by None none = refl
      by (Some before) none = absurd (cc)

  pub own_broken : (i : ℕ) (q : Parameter) → slice_get limits i ≡ Some q → is_sure c cases q.subject ≡ true →
      breaks (least_at least i 0) ≡ is_broken (least_finding c cases q.subject q.word).slack
  own_broken i q at sure =
      ap breaks (own_back i) ∙ by (slice_index_or least i None) (tells_at i q at sure)
    where
      by : (found : Option Least) → IsKnown c cases sets q found → breaks found ≡ is_broken (least_finding c cases q.subject q.word).slack
      by None is = ap is_broken (sym is)
      by (Some found) is = let finding = is.finding in ap (λ (t : Finding). is_broken t.slack) (sym finding.is)

  -- ---- counted

  abbrev own_limit : Parameter → Bool
  own_limit q = is_own_row c cases (row c cases q.subject q.word)

  pub count_more : (place count next : ℕ) (b : Bool) (q : Parameter) → slice_get limits place ≡ Some q → b ≡ own_limit q →
      count ≡ count_by own_limit (take place limits) → next ≡ count + cond b 1 0 → next ≡ count_by own_limit (take (place + 1) limits)
  count_more place count next b q at is are more = by b is more
    where
      within : place < length limits
      within = within_list limits place q at

      own : slice_index_or limits place q ≡ q
      own = some_same (slice_index_or limits place q) q (slice_get limits place) (read_at limits place q within) at

      by : (x : Bool) → x ≡ own_limit q → next ≡ count + cond x 1 0 → next ≡ count_by own_limit (take (place + 1) limits)
      by true passes now =
          now ∙ ap (λ (n : ℕ). n + 1) are
          ∙ sym (count_by_more_yes own_limit limits place q within (ap own_limit own ∙ sym passes))
      by false passes now =
          now ∙ (omega arith) ∙ are
          ∙ sym (count_by_more_no own_limit limits place q within (ap own_limit own ∙ sym passes))

-- ---- the rows

module _ (c : Circuit) (cases : List Case) where
  abbrev pub row_of : Parameter → Row
  row_of q = row c cases q.subject q.word

  words_are : (subject : Subject) (words : List Limit) → map (row c cases subject) words ≡ map row_of (map (limit_with c subject) words)
  words_are subject [] = refl
  words_are subject (word ∷ words) = ap (λ (rs : List Row). row c cases subject word ∷ rs) (words_are subject words)

  pub rows_of : (some : List Subject) → flat_map (λ subject. map (row c cases subject) (limits_of c subject)) some ≡ map row_of (flat_map (limits_at c) some)
  rows_of [] = refl
  rows_of (subject ∷ some) =
      (λ i. words_are subject (limits_of c subject) i ++ rows_of some i)
      ∙ sym (map-append row_of (limits_at c subject) (flat_map (limits_at c) some))

  and_swap : (a b : Bool) → (a && b) ≡ (b && a)
  and_swap true true = refl
  and_swap true false = refl
  and_swap false true = refl
  and_swap false false = refl

  own_by : (s : Slack) (finding : Bool) → ((not (is_free s) && not finding) && is_broken s) ≡ (is_broken s && not finding)
  own_by Free finding = refl
  own_by (Ticks n) finding = and_swap (not finding) (is_broken (Ticks n))
  own_by (Way n) finding = and_swap (not finding) true
  own_by NoNumber finding = and_swap (not finding) true

  abbrev has_row : Row → Bool
  has_row r = not (is_free (slack_of r)) && not (is_reported c cases r)

  abbrev breaks_row : Row → Bool
  breaks_row r = is_broken (slack_of r)

  pub count_is : (limits : List Parameter) → limits ≡ all_limits c →
      count_by (λ (q : Parameter). is_own_row c cases (row c cases q.subject q.word)) limits ≡ broken_count c cases
  count_is limits are =
      ap (count_by (λ (q : Parameter). is_own_row c cases (row_of q))) are
      ∙ sym (length-filter (λ (q : Parameter). is_own_row c cases (row_of q)) (all_limits c))
      ∙ sym (length-map (filter (λ (q : Parameter). is_own_row c cases (row_of q)) (all_limits c)) row_of)
      ∙ ap (λ (rs : List Row). length rs) (filter_through row_of (is_own_row c cases) (all_limits c))
      ∙ ap (λ (rs : List Row). length (filter (is_own_row c cases) rs)) (sym (rows_of (subjects c)))
      ∙ sym (λ i. length (filter (λ (r : Row). own_by (slack_of r) (is_reported c cases r) i) (all_rows c cases)))
      ∙ ap (λ (rs : List Row). length rs) (filter_both has_row breaks_row (all_rows c cases))
      ∙ length-filter breaks_row (own_rows c cases)
