-- Of two sides: whether something can break each, and whether one of both is broken.
use Rattle.std.proofs.Common.{inl, inr, ◌≡◌, ◌⊎◌, arith, ℕ, Bool, true, false, ◌&&◌, ◌||◌, cond, refl, sym, ap, ◌∙◌, Option, Some, None}
use Rattle.std.specs.Prelude.{IfSome, ℤ, pos, int_le, int_lt}
use Rattle.std.proofs.lemmas.Bool.{or_left, or_right}
use Rattle.std.proofs.lemmas.Int.{ints}
use Rattle.critical_paths.specs.declared.arrival.Arrival.{Arrival as Arrived}
use Rattle.critical_paths.specs.declared.direction.Corner.{Corner}
use Rattle.critical_paths.specs.Tick.{is_further}
use Rattle.slack_rows.specs.declared.slack.Slack.TheVariants.{Ticks as NumberOfTicks}
use Rattle.slack_rows.specs.declared.slack.Slacks.{Slacks}
use Rattle.slack_rows.specs.declared.slack.Finding.{Finding as Found}
use Rattle.slack_rows.specs.Slack.{Slack, Free, Ticks, Way, NoNumber, Finding, is_broken, is_free, is_less, lesser}
use Rattle.slack_rows.specs.Arrived.{further_of}
use Rattle.slack_rows.specs.Held.{AreAlike, BreakOne}
use Rattle.slack_rows.specs.Views.{Tells, is_starred, lesser_found, slack_by, slack_finding}
use Rattle.slack_rows.proofs.Broken.{less_breaks, more_breaks}
use Rattle.slack_rows.proofs.Ordered.{before_free, free_is_last}
use Rattle.slack_rows.proofs.Findings.{finding_slack}

-- ---- the lesser of two

pub and_true : (a : Bool) → a ≡ (a && true)
and_true true = refl
and_true false = refl

neither : (x : Bool) (a b : Slack) → is_free a ≡ false → is_free b ≡ false → is_free (cond x b a) ≡ false
neither true a b first second = second
neither false a b first second = first

-- nothing can break it where nothing can break either
pub free_less : (a b : Slack) → is_free (cond (is_less b a) b a) ≡ (is_free a && is_free b)
free_less a Free = ap (λ (x : Bool). is_free (cond x Free a)) (free_is_last a) ∙ and_true (is_free a)
free_less Free (Ticks n) = ap (λ (x : Bool). is_free (cond x (Ticks n) Free)) (before_free (NumberOfTicks n))
free_less Free (Way n) = refl
free_less Free NoNumber = refl
free_less (Ticks m) (Ticks n) = neither (is_less (Ticks n) (Ticks m)) (Ticks m) (Ticks n) refl refl
free_less (Ticks m) (Way n) = neither (is_less (Way n) (Ticks m)) (Ticks m) (Way n) refl refl
free_less (Ticks m) NoNumber = neither (is_less NoNumber (Ticks m)) (Ticks m) NoNumber refl refl
free_less (Way m) (Ticks n) = neither (is_less (Ticks n) (Way m)) (Way m) (Ticks n) refl refl
free_less (Way m) (Way n) = neither (is_less (Way n) (Way m)) (Way m) (Way n) refl refl
free_less (Way m) NoNumber = neither (is_less NoNumber (Way m)) (Way m) NoNumber refl refl
free_less NoNumber (Ticks n) = neither (is_less (Ticks n) NoNumber) NoNumber (Ticks n) refl refl
free_less NoNumber (Way n) = neither (is_less (Way n) NoNumber) NoNumber (Way n) refl refl
free_less NoNumber NoNumber = neither (is_less NoNumber NoNumber) NoNumber NoNumber refl refl

pub or_second : (x y : Bool) → (x ≡ true → y ≡ true) → y ≡ (x || y)
or_second true y holds = holds refl
or_second false y holds = refl

pub or_first : (x y : Bool) → (y ≡ true → x ≡ true) → x ≡ (x || y)
or_first true y holds = refl
or_first false true holds = holds refl
or_first false false holds = refl

-- it is broken where one is
pub broken_less : (a b : Slack) → is_broken (cond (is_less b a) b a) ≡ (is_broken a || is_broken b)
broken_less a b = by (is_less b a) refl
  where
    by : (x : Bool) → is_less b a ≡ x → is_broken (cond x b a) ≡ (is_broken a || is_broken b)
    by true is = or_second (is_broken a) (is_broken b) (less_breaks b a is)
    by false is = or_first (is_broken a) (is_broken b) (more_breaks b a is)

lesser_slack : (a b : Finding) → (lesser a b).slack ≡ cond (is_less b.slack a.slack) b.slack a.slack
lesser_slack a b = by (is_less b.slack a.slack)
  where
    by : (x : Bool) → (cond x b a).slack ≡ cond x b.slack a.slack
    by true = refl
    by false = refl

found_slack : (a b : Option Found) →
    slack_finding (lesser_found a b) ≡ cond (is_less (slack_finding b) (slack_finding a)) (slack_finding b) (slack_finding a)
found_slack a b = by (is_less (slack_finding b) (slack_finding a))
  where
    by : (x : Bool) → slack_finding (cond x b a) ≡ cond x (slack_finding b) (slack_finding a)
    by true = refl
    by false = refl

pub free_lesser : (a b : Finding) → is_free (lesser a b).slack ≡ (is_free a.slack && is_free b.slack)
free_lesser a b = ap is_free (lesser_slack a b) ∙ free_less a.slack b.slack

pub broken_lesser : (a b : Finding) → is_broken (lesser a b).slack ≡ (is_broken a.slack || is_broken b.slack)
broken_lesser a b = ap is_broken (lesser_slack a b) ∙ broken_less a.slack b.slack

free_found : (a b : Option Found) → is_free (slack_finding (lesser_found a b)) ≡ (is_free (slack_finding a) && is_free (slack_finding b))
free_found a b = ap is_free (found_slack a b) ∙ free_less (slack_finding a) (slack_finding b)

broken_found : (a b : Option Found) →
    is_broken (slack_finding (lesser_found a b)) ≡ (is_broken (slack_finding a) || is_broken (slack_finding b))
broken_found a b = ap is_broken (found_slack a b) ∙ broken_less (slack_finding a) (slack_finding b)

-- ---- of two sides

pub exchanged : (a b c d : Bool) → ((a || b) || (c || d)) ≡ ((a || c) || (b || d))
exchanged true b c d = refl
exchanged false true true d = refl
exchanged false true false d = refl
exchanged false false c d = refl

pub alike_lesser : (x y next : Slacks) (a b e f : Finding) → AreAlike x a.slack b.slack → AreAlike y e.slack f.slack →
    next.before ≡ lesser_found x.before y.before → next.after ≡ lesser_found x.after y.after →
    AreAlike next (lesser a e).slack (lesser b f).slack
alike_lesser x y next a b e f first second before after =
    record {
      before = ap (λ (o : Option Found). is_free (slack_finding o)) before ∙ free_found x.before y.before
          ∙ (λ i. first.before i && second.before i) ∙ sym (free_lesser a e);
      after = ap (λ (o : Option Found). is_free (slack_finding o)) after ∙ free_found x.after y.after
          ∙ (λ i. first.after i && second.after i) ∙ sym (free_lesser b f);
      broken = (λ i. is_broken (slack_finding (before i)) || is_broken (slack_finding (after i)))
          ∙ (λ i. broken_found x.before y.before i || broken_found x.after y.after i)
          ∙ exchanged (is_broken (slack_finding x.before)) (is_broken (slack_finding y.before)) (is_broken (slack_finding x.after)) (is_broken (slack_finding y.after))
          ∙ (λ i. first.broken i || second.broken i)
          ∙ exchanged (is_broken a.slack) (is_broken b.slack) (is_broken e.slack) (is_broken f.slack)
          ∙ sym (λ i. broken_lesser a e i || broken_lesser b f i);
    }

-- what is told exactly
pub alike_finding : (p : ℕ) (found : Slacks) (before after : Finding) → Tells p found.before before → Tells p found.after after →
    AreAlike found before.slack after.slack
alike_finding p found before after first second =
    let last = finding_slack p found.before before first in
    let next = finding_slack p found.after after second in
    record {
      before = ap is_free last;
      after = ap is_free next;
      broken = (λ i. is_broken (last i) || is_broken (next i));
    }

-- nothing on either side
pub alike_none : (found : Slacks) (before after : Slack) → found.before ≡ None → found.after ≡ None → before ≡ Free → after ≡ Free →
    AreAlike found before after
alike_none found before after none none_after free free_after =
    record {
      before = ap (λ (o : Option Found). is_free (slack_finding o)) none ∙ sym (ap is_free free);
      after = ap (λ (o : Option Found). is_free (slack_finding o)) none_after ∙ sym (ap is_free free_after);
      broken = (λ i. is_broken (slack_finding (none i)) || is_broken (slack_finding (none_after i)))
          ∙ sym (λ i. is_broken (free i) || is_broken (free_after i));
    }

-- the same
pub alike_same : (found next : Slacks) (before after : Slack) → AreAlike found before after → next.before ≡ found.before →
    next.after ≡ found.after → AreAlike next before after
alike_same found next before after alike same same_after =
    record {
      before = ap (λ (o : Option Found). is_free (slack_finding o)) same ∙ alike.before;
      after = ap (λ (o : Option Found). is_free (slack_finding o)) same_after ∙ alike.after;
      broken = (λ i. is_broken (slack_finding (same i)) || is_broken (slack_finding (same_after i))) ∙ alike.broken;
    }

-- ---- where both have a number or none, and one is broken

pub alike_broken : (found : Slacks) (before after : Slack) → BreakOne (slack_finding found.before) (slack_finding found.after) →
    BreakOne before after → AreAlike found before after
alike_broken found before after one other =
    record {
      before = one.before ∙ sym other.before;
      after = one.after ∙ sym other.after;
      broken = one.broken ∙ sym other.broken;
    }

pub starred_free : (s : Slack) → is_starred s ≡ true → is_free s ≡ false
starred_free Free is = absurd (cc)
starred_free (Ticks n) is = absurd (cc)
starred_free (Way n) is = refl
starred_free NoNumber is = refl

pub starred_broken : (s : Slack) → is_starred s ≡ true → is_broken s ≡ true
starred_broken Free is = absurd (cc)
starred_broken (Ticks n) is = absurd (cc)
starred_broken (Way n) is = refl
starred_broken NoNumber is = refl

pub starred_break : (before after : Slack) → is_starred before ≡ true → is_starred after ≡ true → BreakOne before after
starred_break before after first second =
    record {
      before = starred_free before first;
      after = starred_free after second;
      broken = ap (λ (b : Bool). b || is_broken after) (starred_broken before first);
    }

-- ---- numbers of ways

pub starred_lesser : (best found : Option Found) → IfSome best (λ finding. is_starred (slack_by finding.slack) ≡ true) →
    IfSome found (λ finding. is_starred (slack_by finding.slack) ≡ true) →
    IfSome (lesser_found best found) (λ finding. is_starred (slack_by finding.slack) ≡ true)
starred_lesser best found one other = by (is_less (slack_finding found) (slack_finding best))
  where
    by : (b : Bool) → IfSome (cond b found best) (λ finding. is_starred (slack_by finding.slack) ≡ true)
    by true = other
    by false = one

-- ---- numbers of which one is below 0

below : (n : ℤ) → int_le (pos 0) n ≡ false → int_lt n (pos 0) ≡ true
below n less = grind (arith, ints)

pub two_break : (s t : Slack) (m n : ℤ) → s ≡ Ticks m → t ≡ Ticks n → (int_le (pos 0) m ≡ false) ⊎ (int_le (pos 0) n ≡ false) → BreakOne s t
two_break s t m n first second less =
    record {
      before = ap is_free first;
      after = ap is_free second;
      broken = (λ i. is_broken (first i) || is_broken (second i)) ∙ by less;
    }
  where
    by : (int_le (pos 0) m ≡ false) ⊎ (int_le (pos 0) n ≡ false) → (int_lt m (pos 0) || int_lt n (pos 0)) ≡ true
    by (inl is) = or_left (int_lt m (pos 0)) (int_lt n (pos 0)) (below m is)
    by (inr is) = or_right (int_lt m (pos 0)) (int_lt n (pos 0)) (below n is)

-- ---- arrivals

-- what both are, the further one is
pub further_so : (P : Arrived → Type 0) (corner : Corner) (old new : Option Arrived) →
    IfSome old P → IfSome new P → IfSome (further_of corner old new) P
further_so P corner old None one other = one
further_so P corner None (Some new) one other = other
further_so P corner (Some old) (Some new) one other = by (is_further corner new.tick old.tick)
  where
    by : (b : Bool) → IfSome (cond b (Some new) (Some old)) P
    by true = other
    by false = one
