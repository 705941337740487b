-- What the regions about a window come to, one after another and period by period.
use Rattle.std.proofs.Common.{◌≡◌, ℕ, zero, suc, ◌+◌, ◌*◌, ◌^◌, ◌<◌, ◌≤◌, Bool, true, false, ◌&&◌, cond, refl, sym, ap, subst, ◌∙◌, arith, List, [], ◌∷◌, ◌++◌, length, map, take, get_or, ◌||◌, Option, Some, None}
use Rattle.std.specs.Prelude.{IfSome, ℤ, pos, ◌+ℤ◌, ◌-ℤ◌, filter, unsigned_abs}
use Rattle.std.specs.List.{All, AllByRecursion, list_any}
use Rattle.std.proofs.lemmas.List.Elements.{All-get_or}
use Rattle.std.specs.Option.{option_map, option_or}
use Rattle.std.proofs.lemmas.Int.{ints}
use Rattle.std.proofs.lemmas.List.{map-append, take_all, take_more}
use Rattle.std.proofs.lemmas.List.Folds.{list_any-append}
use Rattle.fixpoint_engine.specs.Waves.{Waves}
use Rattle.flat_circuit.specs.Circuit.{Circuit}
use Rattle.critical_paths.specs.declared.direction.Direction.{Direction}
use Rattle.critical_paths.specs.declared.direction.Corner.{Corner}
use Rattle.critical_paths.specs.declared.direction.Corner.TheVariants.{Late as LateCorner, Early as EarlyCorner}
use Rattle.critical_paths.specs.declared.region.Region.{Region as Ticked}
use Rattle.scald_base.specs.Time.{period}
use Rattle.critical_paths.specs.declared.direction.Direction.TheVariants.{Change}
use Rattle.critical_paths.specs.Arrival.{arrivals_of}
use Rattle.critical_paths.specs.Event.{Events}
use Rattle.critical_paths.specs.Region.{IsCyclic, Region, region_from, region_to, regions, regions_from}
use Rattle.critical_paths.specs.Views.{later_by, ticks_of_region}
use Rattle.slack_rows.specs.declared.around.Around.{Around}
use Rattle.slack_rows.specs.declared.around.Side.{Side as Counted}
use Rattle.slack_rows.specs.declared.held.Held.{Held}
use Rattle.slack_rows.specs.declared.slack.Slacks.{Slacks}
use Rattle.slack_rows.specs.declared.slack.Finding.{Finding as Found}
use Rattle.slack_rows.specs.declared.window.Window.{Window as Ticks}
use Rattle.slack_rows.specs.Window.{Window, Side, counts_after, counts_before, meets, met}
use Rattle.slack_rows.specs.Slack.{At, Free, Launches, Finding, is_broken, is_free, is_less, least, lesser, Ticks as TicksLeft, after_at, after_by, after_window, before_at, before_by, before_window, first_after, if_inside, is_open, last_before, finding_of, two_alone, two_in, two_launches}
use Rattle.slack_rows.specs.Laws.{IsPlaced}
use Rattle.slack_rows.specs.Launched.{two_by}
use Rattle.critical_paths.specs.Tick.{IsWithin, most_tick}
use Rattle.slack_rows.specs.declared.window.Extent.{Extent}
use Rattle.slack_rows.specs.Views.{IsByRegion, Tells, ahead_of, counts_first, counts_last, end_at, is_two, meets_window, lesser_found, region_in, spare_at, finding_by_region, window_about, window_in}
use Rattle.slack_rows.specs.Held.{AreAlike, AreAround, AreChanges, IsBrokenByTwo, IsClose, IsCloseWindow, IsHeld, IsInPeriod, Lies, MayBeClose, MayBeHeld, TellWindow, TellWindows, first_item, held_edge, in_period, in_periods, last_item, launches_of, side_held, slacks_of_two, two_of, windows_about}
use Rattle.slack_rows.proofs.Kept.{filter_more, first_more, last_more}
use Rattle.slack_rows.proofs.Lying.{ahead_is}
use Rattle.slack_rows.proofs.Near.{first_found, first_made as near_first, last_found, last_made as near_last}
use Rattle.slack_rows.proofs.Paired.{regions_one, finding_one}
use Rattle.slack_rows.proofs.Alike.{alike_broken, alike_lesser, alike_none, alike_finding}
use Rattle.slack_rows.proofs.Unrolled.{moved_region, regions_more}
use Rattle.slack_rows.proofs.Findings.{least_map_more, lesser_of, tells_lesser, finding_slack}
use Rattle.slack_rows.proofs.Watched.{some_gap}
use Rattle.slack_rows.proofs.Windows.{le_true}

-- ---- one region more

length_more : {A : Type 0} (xs : List A) (x : A) → length (xs ++ x ∷ []) ≡ length xs + 1
length_more [] x = refl
length_more (y ∷ xs) x = let rest = length_more xs x in omega (arith, rest)

append_none : {A : Type 0} (xs : List A) → xs ++ [] ≡ xs
append_none [] = refl
append_none (x ∷ xs) = ap (λ ys. x ∷ ys) (append_none xs)

count_more : {A : Type 0} (test : A → Bool) (xs : List A) (x : A) →
    length (filter test (xs ++ x ∷ [])) ≡ cond (test x) (length (filter test xs) + 1) (length (filter test xs))
count_more {A} test xs x = ap length (filter_more test xs x) ∙ by (test x)
  where
    by : (b : Bool) → length (filter test xs ++ cond b (x ∷ []) []) ≡ cond b (length (filter test xs) + 1) (length (filter test xs))
    by true = length_more (filter test xs) x
    by false = ap length (append_none (filter test xs))

may_be : (p : ℕ) (b : Bool) (r : Ticked) (o : Option Ticked) → IsClose p r → MayBeClose p o → MayBeClose p (cond b (Some r) o)
may_be p true r o close before = close
may_be p false r o close before = before

may_be_or : (p : ℕ) (b : Bool) (r : Ticked) (o : Option Ticked) → IsClose p r → MayBeClose p o → MayBeClose p (cond b (option_or o (Some r)) o)
may_be_or p true r None close before = close
may_be_or p true r (Some s) close before = before
may_be_or p false r o close before = before

module _ (p : ℕ) (launched : Region → Side) (two : Region → Bool) (w : Window) where
  pub around_more : (xs : List Ticked) (r : Ticked) (side : Counted) (before after : Around) → AreAround p launched two w xs before →
      Lies launched two w (region_in p r) side → IsClose p r →
      after.last ≡ cond (counts_last side) (Some r) before.last →
      after.first ≡ cond (counts_first side) (option_or before.first (Some r)) before.first →
      after.met ≡ cond (meets_window side) (before.met + 1) before.met →
      after.two ≡ cond (is_two side) (Some r) before.two →
      AreAround p launched two w (xs ++ r ∷ []) after
  around_more xs r side before after are lies close last_is first_is met_is two_is =
      record {
        last = last_is ∙ (λ i. cond (lies.last i) (Some r) (are.last i))
            ∙ sym (last_more (λ r. counts_before launched w (region_in p r)) xs r);
        first = first_is ∙ (λ i. cond (lies.first i) (option_or (are.first i) (Some r)) (are.first i))
            ∙ sym (first_more (λ r. counts_after launched w (region_in p r)) xs r);
        met = met_is ∙ (λ i. cond (lies.met i) (are.met i + 1) (are.met i))
            ∙ sym (count_more (λ r. meets w (region_in p r)) xs r);
        two = two_is ∙ (λ i. cond (lies.two i) (Some r) (are.two i))
            ∙ sym (last_more (λ r. meets w (region_in p r) && (is_open w (region_in p r) && two (region_in p r))) xs r);
        close_last = subst (MayBeClose p) (sym last_is) (may_be p (counts_last side) r before.last close are.close_last);
        close_first = subst (MayBeClose p) (sym first_is) (may_be_or p (counts_first side) r before.first close are.close_first);
        close_two = subst (MayBeClose p) (sym two_is) (may_be p (is_two side) r before.two close are.close_two);
      }

  pub around_none : (all : Around) → all.last ≡ None → all.first ≡ None → all.met ≡ 0 → all.two ≡ None → AreAround p launched two w [] all
  around_none all last first met two_is =
      record {
        last = last;
        first = first;
        met = met;
        two = two_is;
        close_last = subst (MayBeClose p) (sym last) tt;
        close_first = subst (MayBeClose p) (sym first) tt;
        close_two = subst (MayBeClose p) (sym two_is) tt;
      }

-- ---- period by period

pub period_more : (p : ℕ) (xs : List Ticked) (n m : ℕ) → m ≡ n + 1 → in_periods p xs m ≡ in_periods p xs n ++ map (in_period p n) xs
period_more p xs n m at = ap (in_periods p xs) (let next : m ≡ suc n = omega (arith, at) in next)

module _ (p : ℕ) (ev : Events) (cyclic : IsCyclic p ev) where
  moved_is : (k : ℕ) (r : Region) → region_in p (in_period p k (ticks_of_region r)) ≡ moved_region (k * p) r
  moved_is k r =
      λ i. record { first = at_tick r.first i; last = at_tick r.last i }
    where
      at_tick : (t : ℕ) → ahead_of p (pos t +ℤ (pos (k * p) -ℤ pos (3 * p))) ≡ k * p + t
      at_tick t =
          let at : pos (3 * p) +ℤ (pos t +ℤ (pos (k * p) -ℤ pos (3 * p))) ≡ pos (k * p + t) = omega (arith, ints) in
          ap unsigned_abs at

  all_moved : (k : ℕ) (rs : List Region) → map (region_in p) (map (in_period p k) (map ticks_of_region rs)) ≡ map (moved_region (k * p)) rs
  all_moved k [] = refl
  all_moved k (r ∷ rs) =
      ap (λ (x : Region). x ∷ map (region_in p) (map (in_period p k) (map ticks_of_region rs))) (moved_is k r)
      ∙ ap (λ (xs : List Region). moved_region (k * p) r ∷ xs) (all_moved k rs)

  -- the regions of the definitions
  pub periods_are : (n : ℕ) → map (region_in p) (in_periods p (map ticks_of_region (regions p ev)) n) ≡ regions_from p ev (n * p) 0
  periods_are zero = let none : 0 * p ≡ 0 = grind arith in sym (ap (λ (m : ℕ). regions_from p ev m 0) none)
  periods_are (suc n) =
      let next : n * p + p ≡ suc n * p = grind arith in
      map-append (region_in p) (in_periods p (map ticks_of_region (regions p ev)) n) (map (in_period p n) (map ticks_of_region (regions p ev)))
      ∙ (λ i. periods_are n i ++ all_moved n (regions p ev) i)
      ∙ sym (regions_more p ev cyclic n)
      ∙ ap (λ (m : ℕ). regions_from p ev m 0) next

-- ---- through a map

module _ {A B : Type 0} (f : A → B) (test : B → Bool) where
  pub filter_through : (xs : List A) → map f (filter (λ x. test (f x)) xs) ≡ filter test (map f xs)
  filter_through [] = refl
  filter_through (x ∷ xs) = by (test (f x)) (filter_through xs)
    where
      by : (b : Bool) → map f (filter (λ x. test (f x)) xs) ≡ filter test (map f xs) →
          map f (cond b (x ∷ filter (λ x. test (f x)) xs) (filter (λ x. test (f x)) xs)) ≡ cond b (f x ∷ filter test (map f xs)) (filter test (map f xs))
      by true rest = ap (λ ys. f x ∷ ys) rest
      by false rest = rest

last_through : {A B : Type 0} (f : A → B) (xs : List A) → option_map f (last_item xs) ≡ last_item (map f xs)
last_through f [] = refl
last_through {A} {B} f (x ∷ xs) = by (last_item xs) ∙ ap (λ (o : Option B). option_or o (Some (f x))) (last_through f xs)
  where
    by : (o : Option A) → option_map f (option_or o (Some x)) ≡ option_or (option_map f o) (Some (f x))
    by None = refl
    by (Some y) = refl

first_through : {A B : Type 0} (f : A → B) (xs : List A) → option_map f (first_item xs) ≡ first_item (map f xs)
first_through f [] = refl
first_through f (x ∷ xs) = refl

length_through : {A B : Type 0} (f : A → B) (xs : List A) → length (map f xs) ≡ length xs
length_through f [] = refl
length_through f (x ∷ xs) = let rest = length_through f xs in omega (arith, rest)

-- ---- two launches in the only region that meets a window

pub filter_both : {A : Type 0} (a b : A → Bool) (xs : List A) → filter (λ x. a x && b x) xs ≡ filter b (filter a xs)
filter_both a b [] = refl
filter_both {A} a b (x ∷ xs) = by (a x) (filter_both a b xs)
  where
    by : (c : Bool) → filter (λ x. a x && b x) xs ≡ filter b (filter a xs) →
        cond (c && b x) (x ∷ filter (λ x. a x && b x) xs) (filter (λ x. a x && b x) xs) ≡ filter b (cond c (x ∷ filter a xs) (filter a xs))
    by true rest = ap (λ (ys : List A). cond (b x) (x ∷ ys) ys) rest
    by false rest = rest

module _ (two : Window → Region → Bool) (w : Window) where
  abbrev meets_so : Region → Bool
  meets_so r = is_open w r && two w r

  none_alone : (rs : List Region) → length rs ≡ 1 → two_alone two w rs ≡ false → last_item (filter meets_so rs) ≡ None
  none_alone [] one none = absurd (omega (arith, one))
  none_alone (r ∷ []) one none = ap (λ (b : Bool). last_item (cond b (r ∷ []) [])) none
  none_alone (r ∷ s ∷ more) one none = absurd (omega (arith, one))

  pub not_alone : {X : Type 0} (rs all : List Region) (r : Region) → rs ≡ filter (meets w) all → length rs ≡ 1 → two_alone two w rs ≡ false →
      last_item (filter (λ r. meets w r && (is_open w r && two w r)) all) ≡ Some r → X
  not_alone rs all r is one none last =
      let nowhere : ◌≡◌ {A = Option Region} None (Some r) =
      sym (none_alone rs one none) ∙ ap (λ (xs : List Region). last_item (filter meets_so xs)) is
      ∙ sym (ap last_item (filter_both (meets w) meets_so all)) ∙ last in
      absurd (cc)

-- without two launches nothing is told by them
inside_none : (w : Window) (b : Bool) (o : Option (ℕ × ℕ)) → (b ≡ true → o ≡ None) → cond b (if_inside w o) None ≡ None
inside_none w true o none = ap (if_inside w) (none refl)
inside_none w false o none = refl

right_false : (a b : Bool) → (a && b) ≡ false → a ≡ true → b ≡ false
right_false true b is here = is
right_false false b is here = absurd (cc)

module _ (c : Circuit) (ws : Waves) where
  two_none : (held : Option Held) (w : Window) (r : Region) → two_of c ws held w r ≡ false → (launches_of c ws held).two w r ≡ None
  two_none None w r none = refl
  two_none (Some held) w r none =
      ap (λ (b : Bool). cond b (two_by (period c.header) r (held_edge c ws held w)
      (arrivals_of c ws LateCorner Change (Some held.pin)) (arrivals_of c ws EarlyCorner Change (Some held.pin))) None) none

  pub no_two : (held : Option Held) (w : Window) (rs : List Region) → two_alone (two_of c ws held) w rs ≡ false →
      two_launches (launches_of c ws held) w rs ≡ None
  no_two held w [] none = refl
  no_two held w (r ∷ []) none =
      inside_none w (is_open w r) ((launches_of c ws held).two w r)
      (λ here. two_none held w r (right_false (is_open w r) (two_of c ws held w r) none here))
  no_two held w (r ∷ s ∷ more) none = refl

  pub side_is : (held : Option Held) (w : Window) (r : Region) → side_held c ws held w r ≡ (launches_of c ws held).side w r
  side_is None w r = refl
  side_is (Some held) w r = refl

-- ---- what is told of a window

module _ (p : ℕ) (pin : ℕ) (d : Direction) (w : Ticks) (near : IsCloseWindow p w) where
  abbrev own : Window
  own = window_in p w

  near_region : (corner : Corner) (r : Ticked) → IsClose p r → IsByRegion p (finding_by_region pin d corner w r) r
  near_region corner r close =
      let from = close.from in
      let ordered = close.ordered in
      record {
        near = (λ i. le_true (unsigned_abs w.from) (2 ^ 20) near.from i
            && (le_true (unsigned_abs r.first) (2 ^ 20) close.first i && le_true (unsigned_abs r.last) (2 ^ 20) close.last i));
        number = (spare_at corner w (end_at corner r), refl);
        opens = near.opens;
        first = close.from;
        last = omega (arith, ints, from, ordered);
      }

  pub tells_last : (ev : Events) (o : Option Ticked) → MayBeClose p o → IfSome (option_map (region_in p) o) (λ r. region_to p ev r.last ≡ r) →
      Tells p (option_map (finding_by_region pin d LateCorner w) o)
      (finding_of pin d (before_at p ev own (option_map (λ (r : Region). r.last) (option_map (region_in p) o))))
  tells_last ev None close made = refl
  tells_last ev (Some r) close made =
      let opens = ahead_is p (w.from -ℤ pos 1) near.opens in
      let tick = ahead_is p r.last (let from = close.from in let ordered = close.ordered in omega (arith, ints, from, ordered)) in
      let left : pos own.opens -ℤ pos (ahead_of p r.last) ≡ w.from -ℤ pos 1 -ℤ r.last = omega (arith, ints, opens, tick) in
      record {
        is = λ i. record { slack = TicksLeft (left i); place = At own (made i); pin = pin; direction = d };
        near = near_region LateCorner r close;
      }

  pub tells_first : (ev : Events) (o : Option Ticked) → MayBeClose p o → IfSome (option_map (region_in p) o) (λ r. region_from p ev r.first ≡ r) →
      Tells p (option_map (finding_by_region pin d EarlyCorner w) o)
      (finding_of pin d (after_at p ev own (option_map (λ (r : Region). r.first) (option_map (region_in p) o))))
  tells_first ev None close made = refl
  tells_first ev (Some r) close made =
      let closes = ahead_is p w.to (let from = near.opens in let ordered = near.ordered in omega (arith, ints, from, ordered)) in
      let tick = ahead_is p r.first close.from in
      let left : pos (ahead_of p r.first) -ℤ pos (own.closes + 1) ≡ r.first -ℤ w.to -ℤ pos 1 = omega (arith, ints, closes, tick) in
      record {
        is = λ i. record { slack = TicksLeft (left i); place = At own (made i); pin = pin; direction = d };
        near = near_region EarlyCorner r close;
      }

module _ (p : ℕ) (ev : Events) (changes : List Ticked) (long : 2 ≤ p) (are : AreChanges p ev changes) (c : Circuit) (ws : Waves)
    (held : Option Held) (w : Ticks) (near : IsCloseWindow p w) (placed : IsPlaced p (window_in p w)) (all : Around)
    (around : AreAround p (side_held c ws held (window_in p w)) (two_of c ws held (window_in p w)) (window_in p w) (in_periods p changes 8) all) where
  abbrev win : Window
  win = window_in p w

  abbrev side : Region → Side
  side = side_held c ws held win

  abbrev launches : Launches
  launches = launches_of c ws held

  regions_are : map (region_in p) (in_periods p changes 8) ≡ regions_from p ev (8 * p) 0
  regions_are = ap (λ (xs : List Ticked). map (region_in p) (in_periods p xs 8)) are.are ∙ periods_are p ev are.cyclic 8

  passing : (test : Region → Bool) → map (region_in p) (filter (λ r. test (region_in p r)) (in_periods p changes 8)) ≡ filter test (regions_from p ev (8 * p) 0)
  passing test = filter_through (region_in p) test (in_periods p changes 8) ∙ ap (filter test) regions_are

  gap : (z : ℕ) × (ev z ≡ false) × (z < p)
  gap = some_gap p ev are.cyclic long are.some

  found_last : option_map (region_in p) all.last ≡ last_item (filter (counts_before side win) (regions_from p ev (8 * p) 0))
  found_last =
      ap (option_map (region_in p)) around.last ∙ last_through (region_in p) (filter (λ r. counts_before side win (region_in p r)) (in_periods p changes 8))
      ∙ ap last_item (passing (counts_before side win))

  found_first : option_map (region_in p) all.first ≡ first_item (filter (counts_after side win) (regions_from p ev (8 * p) 0))
  found_first =
      ap (option_map (region_in p)) around.first ∙ first_through (region_in p) (filter (λ r. counts_after side win (region_in p r)) (in_periods p changes 8))
      ∙ ap first_item (passing (counts_after side win))

  made_last : IfSome (option_map (region_in p) all.last) (λ r. region_to p ev r.last ≡ r)
  made_last =
      let (z, none, below) = gap in
      subst (λ (o : Option Region). IfSome o (λ r. region_to p ev r.last ≡ r)) (sym found_last)
      (near_last p ev are.cyclic long z none below side win placed)

  made_first : IfSome (option_map (region_in p) all.first) (λ r. region_from p ev r.first ≡ r)
  made_first =
      let (z, none, below) = gap in
      subst (λ (o : Option Region). IfSome o (λ r. region_from p ev r.first ≡ r)) (sym found_first)
      (near_first p ev are.cyclic long z none below side win placed)

  last_is : option_map (λ (r : Region). r.last) (option_map (region_in p) all.last) ≡ last_before p ev (launches.side win) win
  last_is =
      let (z, none, below) = gap in
      ap (λ (o : Option Region). option_map (λ (r : Region). r.last) o) found_last
      ∙ sym (last_found p ev are.cyclic long z none below side win placed)
      ∙ side_by held
    where
      side_by : (held : Option Held) → last_before p ev (side_held c ws held win) win ≡ last_before p ev ((launches_of c ws held).side win) win
      side_by None = refl
      side_by (Some h) = refl

  first_is : option_map (λ (r : Region). r.first) (option_map (region_in p) all.first) ≡ first_after p ev (launches.side win) win
  first_is =
      let (z, none, below) = gap in
      ap (λ (o : Option Region). option_map (λ (r : Region). r.first) o) found_first
      ∙ sym (first_found p ev are.cyclic long z none below side win placed)
      ∙ side_by held
    where
      side_by : (held : Option Held) → first_after p ev (side_held c ws held win) win ≡ first_after p ev ((launches_of c ws held).side win) win
      side_by None = refl
      side_by (Some h) = refl

  -- the slacks by the regions
  module _ (pin : ℕ) (d : Direction) (found : Slacks) (before : found.before ≡ option_map (finding_by_region pin d LateCorner w) all.last)
      (after : found.after ≡ option_map (finding_by_region pin d EarlyCorner w) all.first) where
    region_before : Tells p found.before (finding_of pin d (before_at p ev win (last_before p ev (launches.side win) win)))
    region_before =
        subst (λ (o : Option Found). Tells p o (finding_of pin d (before_at p ev win (last_before p ev (launches.side win) win)))) (sym before)
        (subst (λ (finding : Option ℕ). Tells p (option_map (finding_by_region pin d LateCorner w) all.last) (finding_of pin d (before_at p ev win finding))) last_is
        (tells_last p pin d w near ev all.last around.close_last made_last))

    region_after : Tells p found.after (finding_of pin d (after_at p ev win (first_after p ev (launches.side win) win)))
    region_after =
        subst (λ (o : Option Found). Tells p o (finding_of pin d (after_at p ev win (first_after p ev (launches.side win) win)))) (sym after)
        (subst (λ (finding : Option ℕ). Tells p (option_map (finding_by_region pin d EarlyCorner w) all.first) (finding_of pin d (after_at p ev win finding))) first_is
        (tells_first p pin d w near ev all.first around.close_first made_first))

    exact_before : two_in p ev (two_of c ws held) win ≡ false → Tells p found.before (finding_of pin d (before_window p ev launches win))
    exact_before none =
        subst (λ (two : Option (ℕ × ℕ)). Tells p found.before (finding_of pin d (before_by p ev win two (last_before p ev (launches.side win) win))))
        (sym (no_two c ws held win (met p ev win) none)) region_before

    exact_after : two_in p ev (two_of c ws held) win ≡ false → Tells p found.after (finding_of pin d (after_window p ev launches win))
    exact_after none =
        subst (λ (two : Option (ℕ × ℕ)). Tells p found.after (finding_of pin d (after_by p ev win two (first_after p ev (launches.side win) win))))
        (sym (no_two c ws held win (met p ev win) none)) region_after

    regions_alike : (b : Bool) → two_in p ev (two_of c ws held) win ≡ b →
        AreAlike found (before_window p ev launches win).slack (after_window p ev launches win).slack
    regions_alike false none =
        alike_finding p found (finding_of pin d (before_window p ev launches win)) (finding_of pin d (after_window p ev launches win))
        (exact_before none) (exact_after none)
    regions_alike true two =
        let one = regions_one p ev are.cyclic long are.some c ws held win placed two in
        let last = finding_slack p found.before (finding_of pin d (before_at p ev win (last_before p ev (launches.side win) win))) region_before in
        let first = finding_slack p found.after (finding_of pin d (after_at p ev win (first_after p ev (launches.side win) win))) region_after in
        alike_broken found (before_window p ev launches win).slack (after_window p ev launches win).slack
        record {
          before = ap is_free last ∙ one.before;
          after = ap is_free first ∙ one.after;
          broken = (λ i. is_broken (last i) || is_broken (first i)) ∙ one.broken;
        }
        (finding_one p ev are.cyclic long are.some c ws held win placed two)

    pub tell_window : TellWindow p ev launches (two_of c ws held) pin d win found
    tell_window =
        record {
          before = exact_before;
          after = exact_after;
          alike = regions_alike (two_in p ev (two_of c ws held) win) refl;
        }

  -- where two launches are told there may be two
  pub tell_two : (pin : ℕ) (d : Direction) (r : Ticked) (found : Slacks) → all.two ≡ Some r → all.met ≡ 1 → IsBrokenByTwo found →
      TellWindow p ev launches (two_of c ws held) pin d win found
  tell_two pin d r found two one broken =
      record {
        before = λ none. contrary none;
        after = λ none. contrary none;
        alike = alike_broken found (before_window p ev launches win).slack (after_window p ev launches win).slack broken
            (finding_one p ev are.cyclic long are.some c ws held win placed (surely (two_in p ev (two_of c ws held) win) refl));
      }
    where
      contrary : {X : Type 0} → two_in p ev (two_of c ws held) win ≡ false → X
      contrary none =
          not_alone (two_of c ws held) win (met p ev win) (regions_from p ev (8 * p) 0) (region_in p r) refl
          (sym (ap length (passing (meets win))) ∙ length_through (region_in p) (filter (λ r. meets win (region_in p r)) (in_periods p changes 8))
          ∙ sym around.met ∙ one)
          none
          (sym (ap last_item (passing (λ r. meets win r && (is_open win r && two_of c ws held win r))))
          ∙ sym (last_through (region_in p) (filter (λ r. meets win (region_in p r) && (is_open win (region_in p r) && two_of c ws held win (region_in p r))) (in_periods p changes 8)))
          ∙ ap (option_map (region_in p)) (sym around.two ∙ two))

      surely : (b : Bool) → two_in p ev (two_of c ws held) win ≡ b → two_in p ev (two_of c ws held) win ≡ true
      surely true is = is
      surely false is = contrary is

  -- whichever is told
  pub about_finding : (pin : ℕ) (d : Direction) (o : Option (Held × Ticked)) (two : Option Slacks) (regions_finding found : Slacks) →
      IfSome o (λ f. all.two ≡ Some f.1) → IfSome o (λ f. all.met ≡ 1) → (o ≡ None → two ≡ None) → IfSome two IsBrokenByTwo →
      regions_finding.before ≡ option_map (finding_by_region pin d LateCorner w) all.last →
      regions_finding.after ≡ option_map (finding_by_region pin d EarlyCorner w) all.first →
      found ≡ slacks_of_two two regions_finding → TellWindow p ev launches (two_of c ws held) pin d win found
  about_finding pin d o None regions_finding found is one only broken before after finding =
      tell_window pin d found (ap (λ (s : Slacks). s.before) finding ∙ before) (ap (λ (s : Slacks). s.after) finding ∙ after)
  about_finding pin d None (Some s) regions_finding found is one only broken before after finding = absurd (cc (only refl))
  about_finding pin d (Some f) (Some s) regions_finding found is one only broken before after finding =
      tell_two pin d f.1 found is one (subst IsBrokenByTwo (sym finding) broken)

-- ---- loops

append_three : {A : Type 0} (xs ys zs : List A) → (xs ++ ys) ++ zs ≡ xs ++ (ys ++ zs)
append_three [] ys zs = refl
append_three (x ∷ xs) ys zs = ap (λ rest. x ∷ rest) (append_three xs ys zs)

map_taken : {A B : Type 0} (f : A → B) (xs : List A) (i : ℕ) (d : A) → i < length xs →
    map f (take (i + 1) xs) ≡ map f (take i xs) ++ f (get_or xs i d) ∷ []
map_taken f xs i d below = ap (map f) (take_more xs i d below) ∙ map-append f (take i xs) (get_or xs i d ∷ [])

module _ (p : ℕ) (launched : Region → Side) (two : Region → Bool) (w : Window) (begin : ℕ) (changes : List Ticked) where
  abbrev pub AroundTo : Around → ℕ → Around → Type 0
  AroundTo before i all =
      (number : ℕ) (regions : List Ticked) → begin ≡ number * p → AreAround p launched two w regions before →
      AreAround p launched two w (regions ++ map (in_period p number) (take i changes)) all

  pub around_begin : (before : Around) → AroundTo before 0 before
  around_begin before number regions at are = subst (λ (xs : List Ticked). AreAround p launched two w xs before) (sym (append_none regions)) are

  pub around_step : (before old new : Around) (i : ℕ) (d : Ticked) (moved : Ticked) (side : Counted) → i < length changes → AroundTo before i old →
      moved ≡ later_by (pos begin -ℤ pos (3 * p)) (get_or changes i d) → Lies launched two w (region_in p moved) side → IsClose p moved →
      new.last ≡ cond (counts_last side) (Some moved) old.last →
      new.first ≡ cond (counts_first side) (option_or old.first (Some moved)) old.first →
      new.met ≡ cond (meets_window side) (old.met + 1) old.met →
      new.two ≡ cond (is_two side) (Some moved) old.two →
      AroundTo before (i + 1) new
  around_step before old new i d moved side below so moved_is lies close last first met two_is number regions at are =
      let in_its : moved ≡ in_period p number (get_or changes i d) =
      moved_is ∙ ap (λ (n : ℕ). later_by (pos n -ℤ pos (3 * p)) (get_or changes i d)) at in
      subst (λ (xs : List Ticked). AreAround p launched two w xs new)
      (append_three regions (map (in_period p number) (take i changes)) (moved ∷ [])
      ∙ ap (λ (xs : List Ticked). regions ++ xs)
      (ap (λ (r : Ticked). map (in_period p number) (take i changes) ++ r ∷ []) in_its ∙ sym (map_taken (in_period p number) changes i d below)))
      (around_more p launched two w (regions ++ map (in_period p number) (take i changes)) moved side old new (so number regions at are) lies close last first met two_is)

pub met_step : (b : Bool) (met n : ℕ) → met ≤ n → cond b (met + 1) met ≤ n + 1
met_step true met n most = omega (arith, most)
met_step false met n most = omega (arith, most)

pub around_end : (p : ℕ) (launched : Region → Side) (two : Region → Bool) (w : Window) (changes : List Ticked) (n m : ℕ) (old new : Around) → m ≡ n + 1 →
    AreAround p launched two w (in_periods p changes n) old →
    (begin : ℕ) → begin ≡ n * p →
    ((number : ℕ) (regions : List Ticked) → begin ≡ number * p → AreAround p launched two w regions old →
    AreAround p launched two w (regions ++ map (in_period p number) changes) new) →
    AreAround p launched two w (in_periods p changes m) new
around_end p launched two w changes n m old new at before begin begin_is next =
    subst (λ (xs : List Ticked). AreAround p launched two w xs new) (sym (period_more p changes n m at)) (next n (in_periods p changes n) begin_is before)

-- ---- several windows

or_split : (a b : Bool) → (a || b) ≡ false → (a ≡ false) × (b ≡ false)
or_split true b is = absurd (cc)
or_split false b is = (refl, is)

same_either : (b : Bool) (o : Option Found) → cond b o o ≡ o
same_either true o = refl
same_either false o = refl

module _ (p : ℕ) (ev : Events) (launches : Launches) (two : Window → Region → Bool) (pin : ℕ) (d : Direction) where
  pub tell_none : (all : Slacks) → all ≡ record { level = None; before = None; after = None } → TellWindows p ev launches two pin d [] all
  tell_none all is =
      record {
        level = ap (λ (s : Slacks). s.level) is;
        before = λ exact. subst (λ (o : Option Found). Tells p o (finding_of pin d (least []))) (sym (ap (λ (s : Slacks). s.before) is)) refl;
        after = λ exact. subst (λ (o : Option Found). Tells p o (finding_of pin d (least []))) (sym (ap (λ (s : Slacks). s.after) is)) refl;
        alike = alike_none all Free Free (ap (λ (s : Slacks). s.before) is) (ap (λ (s : Slacks). s.after) is) refl refl;
      }

  with_one : (at : Window → Finding) (ws : List Window) (w : Window) (best one all : Option Found) → all ≡ lesser_found best one →
      Tells p best (finding_of pin d (least (map at ws))) → Tells p one (finding_of pin d (at w)) → Tells p all (finding_of pin d (least (map at (ws ++ w ∷ []))))
  with_one at ws w best one all all_is first second =
      subst (λ (o : Option Found). Tells p o (finding_of pin d (least (map at (ws ++ w ∷ []))))) (sym all_is)
      (subst (Tells p (lesser_found best one)) (lesser_of pin d (least (map at ws)) (at w) ∙ ap (finding_of pin d) (sym (least_map_more at ws w)))
      (tells_lesser p best one (finding_of pin d (least (map at ws))) (finding_of pin d (at w)) first second))

  any_parts : (ws : List Window) (w : Window) → list_any (two_in p ev two) (ws ++ w ∷ []) ≡ false →
      (list_any (two_in p ev two) ws ≡ false) × (two_in p ev two w ≡ false)
  any_parts ws w none =
      let both = or_split (list_any (two_in p ev two) ws) (two_in p ev two w || false) (sym (list_any-append (two_in p ev two) ws (w ∷ [])) ∙ none) in
      (both.0, (or_split (two_in p ev two w) false both.1).0)

  pub tell_more : (ws : List Window) (w : Window) (all found next : Slacks) → TellWindows p ev launches two pin d ws all →
      TellWindow p ev launches two pin d w found → found.level ≡ None →
      next.level ≡ lesser_found all.level found.level → next.before ≡ lesser_found all.before found.before →
      next.after ≡ lesser_found all.after found.after → TellWindows p ev launches two pin d (ws ++ w ∷ []) next
  tell_more ws w all found next so here none level_is before_is after_is =
      record {
        level = level_is ∙ (λ i. lesser_found (so.level i) (none i)) ∙ same_either (is_less Free Free) None;
        before = λ exact. let parts = any_parts ws w exact in
            with_one (before_window p ev launches) ws w all.before found.before next.before before_is (so.before parts.0) (here.before parts.1);
        after = λ exact. let parts = any_parts ws w exact in
            with_one (after_window p ev launches) ws w all.after found.after next.after after_is (so.after parts.0) (here.after parts.1);
        alike =
            subst (λ (finding : Finding). AreAlike next finding.slack (least (map (after_window p ev launches) (ws ++ w ∷ []))).slack)
            (sym (least_map_more (before_window p ev launches) ws w))
            (subst (λ (finding : Finding). AreAlike next (lesser (least (map (before_window p ev launches) ws)) (before_window p ev launches w)).slack finding.slack)
            (sym (least_map_more (after_window p ev launches) ws w))
            (alike_lesser all found next (least (map (before_window p ev launches) ws)) (least (map (after_window p ev launches) ws))
            (before_window p ev launches w) (after_window p ev launches w) so.alike here.alike before_is after_is));
      }

  -- the windows about the edges so far
  pub tell_edge : (limits : Extent) (edges : List Ticked) (i : ℕ) (e : Ticked) (w : Ticks) (all found next : Slacks) → i < length edges →
      TellWindows p ev launches two pin d (windows_about p limits (take i edges)) all → w ≡ window_about (get_or edges i e) limits →
      TellWindow p ev launches two pin d (window_in p w) found → found.level ≡ None →
      next.level ≡ lesser_found all.level found.level → next.before ≡ lesser_found all.before found.before →
      next.after ≡ lesser_found all.after found.after → TellWindows p ev launches two pin d (windows_about p limits (take (i + 1) edges)) next
  tell_edge limits edges i e w all found next below so w_is here none level_is before_is after_is =
      subst (λ (ws : List Window). TellWindows p ev launches two pin d ws next)
      (ap (λ (x : Ticks). windows_about p limits (take i edges) ++ window_in p x ∷ []) w_is
      ∙ sym (map_taken (λ (x : Ticked). window_in p (window_about x limits)) edges i e below))
      (tell_more (windows_about p limits (take i edges)) (window_in p w) all found next so here none level_is before_is after_is)

placed_nth : (p : ℕ) (limits : Extent) (edges : List Ticked) (i : ℕ) (e : Ticked) → i < length edges →
    AllByRecursion (IsPlaced p) (windows_about p limits edges) → IsPlaced p (window_in p (window_about (get_or edges i e) limits))
placed_nth p limits [] i e below placed = absurd (omega (arith, below))
placed_nth p limits (x ∷ xs) zero e below placed = placed.0
placed_nth p limits (x ∷ xs) (suc i) e below placed = placed_nth p limits xs i e (omega (arith, below)) placed.1

pub placed_at : (p : ℕ) (limits : Extent) (edges : List Ticked) (i : ℕ) (e : Ticked) (w : Ticks) → i < length edges →
    AllByRecursion (IsPlaced p) (windows_about p limits edges) → w ≡ window_about (get_or edges i e) limits → IsPlaced p (window_in p w)
placed_at p limits edges i e w below placed is =
    subst (λ (x : Ticks). IsPlaced p (window_in p x)) (sym is) (placed_nth p limits edges i e below placed)

-- ---- moved by whole periods

pub moved_close : (p begin : ℕ) (r : Ticked) (t : ℤ) → begin ≤ 32768 → p ≤ 4096 → IsInPeriod p r → t ≡ pos begin -ℤ pos (3 * p) →
    IsClose p (later_by t r)
moved_close p begin r t small short within is =
    let from = within.from in
    let ordered = within.ordered in
    let near = within.near in
    record {
      from = omega (arith, ints, from, is);
      ordered = omega (arith, ints, ordered);
      first = omega (arith, ints, from, ordered, near, is, small, short);
      last = omega (arith, ints, from, ordered, near, is, small, short);
    }

pub around_whole : (p : ℕ) (launched : Region → Side) (two : Region → Bool) (w : Window) (begin : ℕ) (changes : List Ticked) (before all : Around) (i : ℕ) →
    length changes ≤ i → AroundTo p launched two w begin changes before i all →
    (number : ℕ) (regions : List Ticked) → begin ≡ number * p → AreAround p launched two w regions before →
    AreAround p launched two w (regions ++ map (in_period p number) changes) all
around_whole p launched two w begin changes before all i past so number regions at are =
    subst (λ (xs : List Ticked). AreAround p launched two w (regions ++ map (in_period p number) xs) all) (take_all i changes past) (so number regions at are)

-- ---- windows about edges

pub window_close : (p : ℕ) (limits : Extent) (e : Ticked) → p ≤ 4096 → limits.before ≤ p → limits.after ≤ 65535 → IsInPeriod p e → IsCloseWindow p (window_about e limits)
window_close p limits e short some most within =
    let from = within.from in
    let ordered = within.ordered in
    let near = within.near in
    record {
      edge = omega (arith, ints, from);
      ends = omega (arith, ints, from, ordered);
      opens = omega (arith, ints, from, some);
      ordered = omega (arith, ints, ordered);
      first = omega (arith, ints, from, ordered, near, short);
      last = omega (arith, ints, from, ordered, near, short);
      from = omega (arith, ints, from, ordered, near, short, some);
      to = omega (arith, ints, from, ordered, near, short, most);
    }

-- ---- parts of what is asked

pub close_within : (p : ℕ) (o : Option Ticked) → MayBeClose p o → IfSome o (λ r. IsWithin most_tick r.first × IsWithin most_tick r.last)
close_within p None close = tt
close_within p (Some r) close =
    let first = close.first in
    let last = close.last in
    (omega (arith, first), omega (arith, last))

pub level_either : (two : Option Slacks) (regions_finding found : Slacks) → IfSome two (λ s. s.level ≡ None) → regions_finding.level ≡ None →
    found ≡ slacks_of_two two regions_finding → found.level ≡ None
level_either None regions_finding found two regions is = ap (λ (s : Slacks). s.level) is ∙ regions
level_either (Some s) regions_finding found two regions is = ap (λ (s : Slacks). s.level) is ∙ two

pub met_two : (c : Circuit) (p : ℕ) (held : Option Held) (all : Option Ticked) (o : Option (Held × Ticked)) → MayBeHeld c held → MayBeClose p all →
    IfSome o (λ f. held ≡ Some f.0) → IfSome o (λ f. all ≡ Some f.1) → IfSome o (λ f. IsHeld c f.0 × IsClose p f.1)
met_two c p held all None may close held_is all_is = tt
met_two c p held all (Some f) may close held_is all_is = (subst (MayBeHeld c) held_is may, subst (MayBeClose p) all_is close)

pub level_more : (a b all : Option Found) → all ≡ lesser_found a b → a ≡ None → b ≡ None → all ≡ None
level_more a b all is first second = is ∙ (λ i. lesser_found (first i) (second i)) ∙ same_either (is_less Free Free) None

pub edge_at : (p q : ℕ) (edges : List Ticked) (i : ℕ) (d : Ticked) → q ≡ p → i < length edges → All (IsInPeriod p) edges →
    IsInPeriod q (get_or edges i d)
edge_at p q edges i d same below within =
    subst (λ (n : ℕ). IsInPeriod n (get_or edges i d)) (sym same) (All-get_or (IsInPeriod p) edges i d below within)
