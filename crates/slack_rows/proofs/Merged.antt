-- Two slacks that one region of changes tells, as the program compares them.
use Rattle.std.proofs.Common.{◌≡◌, ℕ, ◌+◌, ◌*◌, ◌%◌, ◌<◌, ◌<ℤ◌, Bool, true, false, ◌&&◌, ◌||◌, refl, sym, ap, subst, ◌∙◌, arith, Some, None}
use Rattle.std.specs.Prelude.{ℤ, pos, ◌+ℤ◌, ◌-ℤ◌, ◌≤ℤ◌, ◌==◌, int_le}
use Rattle.std.proofs.lemmas.Bool.{eq-eqb, eqb-true}
use Rattle.std.proofs.lemmas.Int.{ints}
use Rattle.critical_paths.specs.declared.region.Region.{Region as Ticked}
use Rattle.slack_rows.specs.declared.slack.By.{By}
use Rattle.slack_rows.specs.declared.slack.By.TheVariants.{Region as ByRegion, Way as ByWay, Quiet, Pulse, Swallowed, Repeated, Nothing}
use Rattle.slack_rows.specs.declared.slack.Reason.{Reason}
use Rattle.slack_rows.specs.declared.slack.Reason.TheVariants.{Data, DataLoop, Clock, High as StaysHigh, Mark, Still, Level}
use Rattle.slack_rows.specs.declared.slack.Slack.{Slack as Number}
use Rattle.slack_rows.specs.declared.slack.Slack.TheVariants.{NoNumber as NumberOfNone, Ticks as NumberOfTicks, Way as NumberOfWay}
use Rattle.slack_rows.specs.declared.slack.Finding.{Finding as Found}
use Rattle.slack_rows.specs.declared.table.Shape.{Shape}
use Rattle.critical_paths.specs.Tick.{slot_of}
use Rattle.slack_rows.specs.Rows.{are_one_region, have_no_number, opens_after, same_region}
use Rattle.slack_rows.specs.Slack.{Place, Nowhere, At, Arrived, InPulse, AtLevel, Slack, Free, NoNumber, Ticks, Way, is_broken}
use Rattle.slack_rows.specs.Views.{IsByRegion, IsNear, ahead_of, are_close, place_by, place_of, place_without, region_in, region_finding, shape_in, finding_by_found, window_in}
use Rattle.slack_rows.proofs.Launching.{mod_ahead}
use Rattle.slack_rows.proofs.Lying.{ahead_is}

-- ---- by no region

is_at : Place → Bool
is_at Nowhere = false
is_at (At w r) = true
is_at (Arrived w t) = false
is_at (InPulse t n) = false
is_at (AtLevel t) = false

not_first : (p : ℕ) (x y : Place) → is_at x ≡ false → false ≡ are_one_region p x y
unfolding is_at
not_first p Nowhere y away = refl
not_first p (At w r) y away = absurd (cc)
not_first p (Arrived w t) y away = refl
not_first p (InPulse t n) y away = refl
not_first p (AtLevel t) y away = refl

not_second : (p : ℕ) (x y : Place) → is_at y ≡ false → false ≡ are_one_region p x y
unfolding is_at
not_second p Nowhere y away = refl
not_second p (At w r) Nowhere away = refl
not_second p (At w r) (At v s) away = absurd (cc)
not_second p (At w r) (Arrived v t) away = refl
not_second p (At w r) (InPulse t n) away = refl
not_second p (At w r) (AtLevel t) away = refl
not_second p (Arrived w t) y away = refl
not_second p (InPulse t n) y away = refl
not_second p (AtLevel t) y away = refl

module _ (p : ℕ) (found : Found) where
  without : (reason : Reason) → is_at (place_without reason) ≡ false
  unfolding is_at
  without Data = refl
  without DataLoop = refl
  without Clock = refl
  without StaysHigh = refl
  without Mark = refl
  without Still = refl
  without (Level high slot) = refl

  by_none : (by : By) → region_finding by ≡ None → is_at (place_by p found by) ≡ false
  unfolding is_at
  by_none (ByRegion region) none = absurd (cc)
  by_none (ByWay node) none = refl
  by_none Quiet none = refl
  by_none Pulse none = refl
  by_none Swallowed none = refl
  by_none Repeated none = refl
  by_none Nothing none = refl

  not_at : (slack : Number) → region_finding found.by ≡ None → is_at (place_of p found slack) ≡ false
  unfolding is_at
  not_at (NumberOfNone reason) none = without reason
  not_at (NumberOfTicks n) none = by_none found.by none
  not_at (NumberOfWay n) none = refl

pub none_before : (p : ℕ) (before after : Found) → region_finding before.by ≡ None →
    false ≡ are_one_region p (finding_by_found p before).place (finding_by_found p after).place
none_before p before after none =
    not_first p (finding_by_found p before).place (finding_by_found p after).place
    (not_at p before before.slack none)

pub none_after : (p : ℕ) (before after : Found) → region_finding after.by ≡ None →
    false ≡ are_one_region p (finding_by_found p before).place (finding_by_found p after).place
none_after p before after none =
    not_second p (finding_by_found p before).place (finding_by_found p after).place
    (not_at p after after.slack none)

-- ---- by two

by_is : (by : By) (r : Ticked) → region_finding by ≡ Some r → by ≡ ByRegion r
by_is (ByRegion region) r is = let same : region ≡ r = cc in ap ByRegion same
by_is (ByWay node) r is = absurd (cc)
by_is Quiet r is = absurd (cc)
by_is Pulse r is = absurd (cc)
by_is Swallowed r is = absurd (cc)
by_is Repeated r is = absurd (cc)
by_is Nothing r is = absurd (cc)

module _ (p : ℕ) (found : Found) (r : Ticked) (is : region_finding found.by ≡ Some r) (near : IsNear p found found.by) where
  by_region : IsByRegion p found r
  by_region = subst (IsNear p found) (by_is found.by r is) near

  place_is : (finding_by_found p found).place ≡ At (window_in p found.window) (region_in p r)
  place_is =
      let number = by_region.number in
      ap (place_of p found) number.1 ∙ ap (place_by p found) (by_is found.by r is)

is_le : (a b : ℤ) → int_le a b ≡ true → a ≤ℤ b
is_le a b is = grind (arith, ints)

not_le : (a b : ℤ) → int_le a b ≡ false → b <ℤ a
not_le a b is = grind (arith, ints)

both_same : (a b : Bool) → a ≡ true → b ≡ true → true ≡ (a && b)
both_same a b first second = (λ i. sym first i && sym second i)

left_off : (a b : Bool) → a ≡ false → false ≡ (a && b)
left_off a b off = ap (λ (x : Bool). x && b) (sym off)

right_off : (a b : Bool) → b ≡ false → false ≡ (a && b)
right_off true b off = sym off
right_off false b off = refl

-- one tick sooner, in the same order
order_same : (a b x y : ℤ) → a ≡ x -ℤ pos 1 → b ≡ y -ℤ pos 1 → int_le x y ≡ int_le a b
order_same a b x y a_is b_is = by (int_le x y) (int_le a b) refl refl
  where
    by : (s t : Bool) → int_le x y ≡ s → int_le a b ≡ t → s ≡ t
    by true true first second = refl
    by false false first second = refl
    by true false first second =
        let at = is_le x y first in
        let past = not_le a b second in
        absurd (omega (arith, ints, at, past, a_is, b_is))
    by false true first second =
        let past = not_le x y first in
        let at = is_le a b second in
        absurd (omega (arith, ints, at, past, a_is, b_is))

module _ (p : ℕ) (some : 0 < p) (before after : Found) (one other : Ticked)
    (one_is : region_finding before.by ≡ Some one) (other_is : region_finding after.by ≡ Some other)
    (near : IsNear p before before.by) (near_after : IsNear p after after.by) where
  first : IsByRegion p before one
  first = by_region p before one one_is near

  second : IsByRegion p after other
  second = by_region p after other other_is near_after

  abbrev counted_once : Bool
  counted_once = are_one_region p (finding_by_found p before).place (finding_by_found p after).place

  abbrev in_order : Bool
  in_order = int_le (before.window.from -ℤ one.first) (after.window.from -ℤ other.first)

  abbrev same_slots : Bool
  same_slots = ahead_of p one.first % p == ahead_of p other.first % p

  abbrev same_longs : Bool
  same_longs = ahead_of p one.last + ahead_of p other.first == ahead_of p other.last + ahead_of p one.first

  abbrev same : Bool
  same = same_region p (region_in p one) (region_in p other)

  -- by the order of the windows, and whether the regions are the same
  finding_is : counted_once ≡ (in_order && same)
  finding_is =
      (λ i. are_one_region p (place_is p before one one_is near i)
      (place_is p after other other_is near_after i))
      ∙ sym (λ i. order_same _ _ (before.window.from -ℤ one.first)
      (after.window.from -ℤ other.first) (opens before one first) (opens after other second) i
      && same)
    where
      opens : (found : Found) (r : Ticked) → IsByRegion p found r →
          opens_after (region_in p r) (window_in p found.window)
          ≡ (found.window.from -ℤ r.first) -ℤ pos 1
      opens found r is =
          let from = ahead_is p (found.window.from -ℤ pos 1) is.opens in
          let begin = ahead_is p r.first is.first in
          omega (arith, ints, from, begin)

  pub not_close : are_close before.window one ≡ false → false ≡ counted_once
  not_close far = absurd (let near = first.near in cc)

  pub not_close_after : are_close after.window other ≡ false → false ≡ counted_once
  not_close_after far = absurd (let near = second.near in cc)

  pub out_of_order : in_order ≡ false → false ≡ counted_once
  out_of_order order = left_off in_order same order ∙ sym finding_is

  begin : pos (ahead_of p one.first) ≡ pos (3 * p) +ℤ one.first
  begin = ahead_is p one.first first.first

  begin_other : pos (ahead_of p other.first) ≡ pos (3 * p) +ℤ other.first
  begin_other = ahead_is p other.first second.first

  end : pos (ahead_of p one.last) ≡ pos (3 * p) +ℤ one.last
  end = ahead_is p one.last first.last

  end_other : pos (ahead_of p other.last) ≡ pos (3 * p) +ℤ other.last
  end_other = ahead_is p other.last second.last

  -- by whether they are of one shape
  pub one_or_not : in_order ≡ true → (b : Bool) → (b ≡ true → shape_in p one ≡ shape_in p other) →
      (b ≡ false → shape_in p one ≡ shape_in p other → ⊥) → b ≡ counted_once
  one_or_not order true alike differ =
      both_same in_order same order same_is ∙ sym finding_is
    where
      same_is : same ≡ true
      same_is =
          let slots = ap (λ (s : Shape). s.slot) (alike refl) in
          let long : one.last -ℤ one.first ≡ other.last -ℤ other.first = ap (λ (s : Shape). s.ticks) (alike refl) in
          sym (both_same same_slots same_longs
          (eq-eqb (ahead_of p one.first % p) (ahead_of p other.first % p)
          (mod_ahead p one.first some first.first ∙ slots
          ∙ sym (mod_ahead p other.first some second.first)))
          (eq-eqb (ahead_of p one.last + ahead_of p other.first)
          (ahead_of p other.last + ahead_of p one.first)
          (omega (arith, ints, begin, begin_other, end, end_other, long))))
  one_or_not order false alike differ =
      right_off in_order same (by same_slots refl same_longs refl) ∙ sym finding_is
    where
      slots_are : same_slots ≡ true → slot_of p one.first ≡ slot_of p other.first
      slots_are slots =
          sym (mod_ahead p one.first some first.first)
          ∙ eqb-true (ahead_of p one.first % p) (ahead_of p other.first % p) slots
          ∙ mod_ahead p other.first some second.first

      ticks_are : same_longs ≡ true → one.last -ℤ one.first ≡ other.last -ℤ other.first
      ticks_are longs =
          let long = eqb-true (ahead_of p one.last + ahead_of p other.first)
          (ahead_of p other.last + ahead_of p one.first) longs in
          omega (arith, ints, begin, begin_other, end, end_other, long)

      by : (a : Bool) → same_slots ≡ a → (b : Bool) → same_longs ≡ b → same ≡ false
      by true slots true longs =
          absurd (differ refl (λ i. record { slot = slots_are slots i; ticks = ticks_are longs i }))
      by true slots false longs = (λ i. slots i && longs i)
      by false slots b longs = ap (λ (x : Bool). x && same_longs) slots

-- ---- told once

and_three : (a b e : Bool) → (a && (b && e)) ≡ ((a && b) && e)
and_three true b e = refl
and_three false b e = refl

pub chain_on : (none first second rest both b : Bool) → none ≡ false → both ≡ (first && second) → both ≡ true → b ≡ rest →
    b ≡ (none || (first && (second && rest)))
chain_on none first second rest both b off both_is on is =
    is ∙ sym ((λ i. off i || (first && (second && rest))) ∙ and_three first second rest ∙ (λ i. (sym both_is ∙ on) i && rest))

pub chain_off : (none first second rest both : Bool) → none ≡ false → both ≡ (first && second) → both ≡ false →
    false ≡ (none || (first && (second && rest)))
chain_off none first second rest both off both_is on =
    sym ((λ i. off i || (first && (second && rest))) ∙ and_three first second rest ∙ (λ i. (sym both_is ∙ on) i && rest))

pub none_broken : (a b : Slack) → have_no_number a b ≡ true → is_broken a ≡ true
none_broken NoNumber b is = refl
none_broken Free b is = absurd (cc)
none_broken (Ticks n) b is = absurd (cc)
none_broken (Way n) b is = absurd (cc)
