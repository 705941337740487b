-- Where a region lies about a window, by ticks as the program counts them.
use Rattle.std.proofs.Common.{◌≡◌, ℕ, ◌*◌, Bool, true, false, not, ◌&&◌, ◌||◌, cond, refl, sym, ap, subst, ◌∙◌, arith, Option, Some, None}
use Rattle.std.specs.Prelude.{ℤ, pos, negsuc, ◌+ℤ◌, ◌-ℤ◌, ◌≤ℤ◌, int_lt, nat_le, nat_lt, unsigned_abs}
use Rattle.std.proofs.lemmas.Int.{ints}
use Rattle.critical_paths.specs.declared.region.Region.{Region as Ticked}
use Rattle.critical_paths.specs.Region.{Region}
use Rattle.slack_rows.specs.declared.around.Side.{Side as Counted}
use Rattle.slack_rows.specs.declared.around.Side.TheVariants.{Before as LiesBefore, Late as CountsLate, Early as CountsEarly, Either as CountsEither, Two as CountsTwo, After as LiesAfter}
use Rattle.slack_rows.specs.declared.window.Window.{Window as Ticks}
use Rattle.slack_rows.specs.Window.{Window, Side, begins_before, ends_after, is_after, is_before, is_early, is_late, side_by_ends}
use Rattle.slack_rows.specs.Views.{ahead_of, counts_first, counts_last, is_two, meets_window, side_in, window_in, region_in}
use Rattle.slack_rows.specs.Held.{IsClose, IsCloseWindow, Lies, lies_by_ends, lies_open}
use Rattle.slack_rows.proofs.Windows.{false_le, false_lt, lt_false, true_le, true_lt}

-- ---- ticks

-- as the definitions count it, three periods on
pub ahead_is : (p : ℕ) (tick : ℤ) → pos 0 ≤ℤ (pos (3 * p) +ℤ tick) → pos (ahead_of p tick) ≡ pos (3 * p) +ℤ tick
ahead_is p tick from = by (pos (3 * p) +ℤ tick) from
  where
    by : (z : ℤ) → pos 0 ≤ℤ z → pos (unsigned_abs z) ≡ z
    by (pos n) from = refl
    by (negsuc n) from = absurd (omega (arith, ints, from))

int_true : (a b : ℤ) → int_lt a b ≡ true → (a +ℤ pos 1) ≤ℤ b
int_true a b less = grind (arith, ints)

int_false : (a b : ℤ) → int_lt a b ≡ false → b ≤ℤ a
int_false a b less = grind (arith, ints)

less_same : (k x y : ℕ) (a b : ℤ) → pos x ≡ pos k +ℤ a → pos y ≡ pos k +ℤ (b -ℤ pos 1) → int_lt a b ≡ nat_le x y
less_same k x y a b x_is y_is = by (int_lt a b) (nat_le x y) refl refl
  where
    by : (s t : Bool) → int_lt a b ≡ s → nat_le x y ≡ t → s ≡ t
    by true true less most = refl
    by false false less most = refl
    by true false less most =
        let first = int_true a b less in
        let second = false_le x y most in
        absurd (omega (arith, ints, first, second, x_is, y_is))
    by false true less most =
        let first = int_false a b less in
        let second = true_le x y most in
        absurd (omega (arith, ints, first, second, x_is, y_is))

more_same : (k x y : ℕ) (a b : ℤ) → pos x ≡ pos k +ℤ a → pos y ≡ pos k +ℤ b → int_lt a b ≡ nat_lt x y
more_same k x y a b x_is y_is = by (int_lt a b) (nat_lt x y) refl refl
  where
    by : (s t : Bool) → int_lt a b ≡ s → nat_lt x y ≡ t → s ≡ t
    by true true less most = refl
    by false false less most = refl
    by true false less most =
        let first = int_true a b less in
        let second = false_lt x y most in
        absurd (omega (arith, ints, first, second, x_is, y_is))
    by false true less most =
        let first = int_false a b less in
        let second = true_lt x y most in
        absurd (omega (arith, ints, first, second, x_is, y_is))

-- ---- by its ends

-- the same by the tests of its ends alone
record LiesBy (launched : Region → Side) (two : Region → Bool) (r : Region) (before after begins ends : Bool) (side : Counted) : Type 0 where
  last : counts_last side ≡ (before || ((not before && not after) && is_late (side_by_ends begins ends launched r)))
  first : counts_first side ≡ (after || ((not before && not after) && is_early (side_by_ends begins ends launched r)))
  met : meets_window side ≡ (not before && not after)
  two_is : is_two side ≡ ((not before && not after) && (cond begins ends (not ends) && two r))

abbrev by_tests : Bool → Bool → Bool → Bool → Option Counted
by_tests before after begins ends = cond before (Some LiesBefore) (cond after (Some LiesAfter) (lies_open begins ends))

lies_by : (launched : Region → Side) (two : Region → Bool) (r : Region) (before after begins ends : Bool) (side : Counted) →
    (before ≡ true → after ≡ false) → by_tests before after begins ends ≡ Some side → LiesBy launched two r before after begins ends side
lies_by launched two r true true begins ends side apart is = absurd (cc (apart refl))
lies_by launched two r true false begins ends side apart is =
    let same : LiesBefore ≡ side = cc in
    subst (LiesBy launched two r true false begins ends) same record { last = refl; first = refl; met = refl; two_is = refl }
lies_by launched two r false true begins ends side apart is =
    let same : LiesAfter ≡ side = cc in
    subst (LiesBy launched two r false true begins ends) same record { last = refl; first = refl; met = refl; two_is = refl }
lies_by launched two r false false true true side apart is = absurd (cc)
lies_by launched two r false false true false side apart is =
    let same : CountsLate ≡ side = cc in
    subst (LiesBy launched two r false false true false) same record { last = refl; first = refl; met = refl; two_is = refl }
lies_by launched two r false false false true side apart is =
    let same : CountsEarly ≡ side = cc in
    subst (LiesBy launched two r false false false true) same record { last = refl; first = refl; met = refl; two_is = refl }
lies_by launched two r false false false false side apart is = absurd (cc)

-- ---- by its launches

late_in : (side : Counted) → meets_window side ≡ true → counts_last side ≡ is_late (side_in side)
late_in CountsLate met = refl
late_in CountsEarly met = refl
late_in CountsEither met = refl
late_in CountsTwo met = refl
late_in LiesBefore met = absurd (cc)
late_in LiesAfter met = absurd (cc)

early_in : (side : Counted) → meets_window side ≡ true → counts_first side ≡ is_early (side_in side)
early_in CountsLate met = refl
early_in CountsEarly met = refl
early_in CountsEither met = refl
early_in CountsTwo met = refl
early_in LiesBefore met = absurd (cc)
early_in LiesAfter met = absurd (cc)

open_by : (launched : Region → Side) (two : Region → Bool) (r : Region) (before after begins ends : Bool) (side : Counted) →
    by_tests before after begins ends ≡ None → side_in side ≡ launched r → is_two side ≡ two r → meets_window side ≡ true →
    LiesBy launched two r before after begins ends side
open_by launched two r true after begins ends side is side_is two_is met = absurd (cc)
open_by launched two r false true begins ends side is side_is two_is met = absurd (cc)
open_by launched two r false false true true side is side_is two_is met =
    record {
      last = late_in side met ∙ ap is_late side_is;
      first = early_in side met ∙ ap is_early side_is;
      met = met;
      two_is = two_is;
    }
open_by launched two r false false true false side is side_is two_is met = absurd (cc)
open_by launched two r false false false true side is side_is two_is met = absurd (cc)
open_by launched two r false false false false side is side_is two_is met =
    record {
      last = late_in side met ∙ ap is_late side_is;
      first = early_in side met ∙ ap is_early side_is;
      met = met;
      two_is = two_is;
    }

-- ---- as the program counts

module _ (p : ℕ) (w : Ticks) (r : Ticked) (near : IsCloseWindow p w) (close : IsClose p r) (launched : Region → Side) (two : Region → Bool) where
  abbrev own : Window
  own = window_in p w

  abbrev here : Region
  here = region_in p r

  first_is : pos here.first ≡ pos (3 * p) +ℤ r.first
  first_is = ahead_is p r.first close.from

  last_is : pos here.last ≡ pos (3 * p) +ℤ r.last
  last_is = ahead_is p r.last (let from = close.from in let ordered = close.ordered in omega (arith, ints, from, ordered))

  opens_is : pos own.opens ≡ pos (3 * p) +ℤ (w.from -ℤ pos 1)
  opens_is = ahead_is p (w.from -ℤ pos 1) near.opens

  closes_is : pos own.closes ≡ pos (3 * p) +ℤ w.to
  closes_is = ahead_is p w.to (let from = near.opens in let ordered = near.ordered in omega (arith, ints, from, ordered))

  tests_are : lies_by_ends w r ≡ by_tests (is_before own here) (is_after own here) (begins_before own here) (ends_after own here)
  tests_are =
      let before = less_same (3 * p) here.last own.opens r.last w.from last_is opens_is in
      let after = more_same (3 * p) own.closes here.first w.to r.first closes_is first_is in
      let begins = less_same (3 * p) here.first own.opens r.first w.from first_is opens_is in
      let ends = more_same (3 * p) own.closes here.last w.to r.last closes_is last_is in
      λ i. cond (before i) (Some LiesBefore) (cond (after i) (Some LiesAfter) (lies_open (begins i) (ends i)))

  apart : is_before own here ≡ true → is_after own here ≡ false
  apart before =
      let up_to = true_le here.last own.opens before in
      let window = near.ordered in
      let region = close.ordered in
      let first = first_is in
      let last = last_is in
      let opens = opens_is in
      let closes = closes_is in
      lt_false own.closes here.first (omega (arith, ints, up_to, window, region, first, last, opens, closes))

  lies : (side : Counted) → LiesBy launched two here (is_before own here) (is_after own here) (begins_before own here) (ends_after own here) side →
      Lies launched two own here side
  lies side by = record { last = by.last; first = by.first; met = by.met; two = by.two_is }

  pub lies_by_its_ends : (side : Counted) → lies_by_ends w r ≡ Some side → Lies launched two own here side
  lies_by_its_ends side is =
      lies side (lies_by launched two here (is_before own here) (is_after own here) (begins_before own here) (ends_after own here) side
      apart (sym tests_are ∙ is))

  pub lies_by_launch : (side : Counted) → lies_by_ends w r ≡ None → side_in side ≡ launched here → is_two side ≡ two here →
      meets_window side ≡ true → Lies launched two own here side
  lies_by_launch side is side_is two_is met =
      lies side (open_by launched two here (is_before own here) (is_after own here) (begins_before own here) (ends_after own here) side
      (sym tests_are ∙ is) side_is two_is met)
