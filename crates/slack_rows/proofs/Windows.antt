-- A window's slacks are broken exactly where data may change in it.
use Rattle.std.proofs.Common.{inl, inr, ◌≡◌, ◌⊎◌, ℕ, ◌+◌, ◌-◌, ◌*◌, ◌<◌, ◌≤◌, Bool, true, false, not, ◌&&◌, ◌||◌, cond, refl, sym, ap, ◌∙◌, arith, List, [], ◌∷◌, map, Option, Some, None}
use Rattle.std.specs.Prelude.{pos, ◌-ℤ◌, int_lt, nat_le, nat_lt, filter}
use Rattle.std.specs.List.{range_with_len}
use Rattle.std.proofs.lemmas.Bool.{cases_lt, and_parts, and_from}
use Rattle.std.proofs.lemmas.Int.{ints}
use Rattle.slack_rows.specs.Slack.{Launches, is_broken, before_at, after_at, before_by, after_by, before_window, after_window, are_inside, if_inside, is_open, two_launches, last_before, first_after}
use Rattle.critical_paths.specs.Event.{Events, is_first, is_last}
use Rattle.critical_paths.specs.Region.{Region, region_from, region_to, IsCyclic}
use Rattle.slack_rows.specs.Window.{Window, Side, Late, Early, Either, is_before, is_after, meets, is_late, is_early, side_of, counts_before, counts_after, met}
use Rattle.slack_rows.specs.Laws.{IsPlaced, IsTouched}
use Rattle.critical_paths.proofs.Searches.{first_is, first_up_to, last_is, last_from}
use Rattle.critical_paths.proofs.Runs.{not_true, not_false, IsAround, around, region_from_is, region_to_is, first_tick, last_tick, region_from_each, region_to_each, region_to_ordered, region_from_ordered}

-- ---- numbers

pub le_true : (a b : ℕ) → a ≤ b → nat_le a b ≡ true
le_true a b h = grind arith

pub le_false : (a b : ℕ) → b < a → nat_le a b ≡ false
le_false a b h = grind arith

pub lt_true : (a b : ℕ) → a < b → nat_lt a b ≡ true
lt_true a b h = grind arith

pub lt_false : (a b : ℕ) → b ≤ a → nat_lt a b ≡ false
lt_false a b h = grind arith

pub true_le : (a b : ℕ) → nat_le a b ≡ true → a ≤ b
true_le a b h = grind arith

pub false_le : (a b : ℕ) → nat_le a b ≡ false → b < a
false_le a b h = grind arith

pub true_lt : (a b : ℕ) → nat_lt a b ≡ true → a < b
true_lt a b h = grind arith

pub false_lt : (a b : ℕ) → nat_lt a b ≡ false → b ≤ a
false_lt a b h = grind arith

pub below_zero : (a b : ℕ) → a < b → int_lt (pos a -ℤ pos b) (pos 0) ≡ true
below_zero a b h = grind (arith, ints)

pub not_below_zero : (a b : ℕ) → int_lt (pos a -ℤ pos b) (pos 0) ≡ true → a < b
not_below_zero a b h = grind (arith, ints)

or_either : (a b : Bool) → (a || b) ≡ true → (a ≡ true) ⊎ (b ≡ true)
or_either true b h = inl refl
or_either false b h = inr h

or_right : (a b : Bool) → b ≡ true → (a || b) ≡ true
or_right true b h = refl
or_right false b h = h

sides : (s : Side) → (is_late s ≡ true) ⊎ (is_early s ≡ true)
sides Late = inl refl
sides Early = inr refl
sides Either = inl refl

module _ (p : ℕ) (ev : Events) (cyclic : IsCyclic p ev) (long : 2 ≤ p) (launches : Launches) (w : Window) where
  -- ---- from a region to a tick of it

  first_in : (f : ℕ) → is_first p ev f ≡ true → ev f ≡ true
  first_in f is = let parts = and_parts (ev f) (not (ev (f + (p - 1)))) is in parts.0

  last_in : (l : ℕ) → is_last ev l ≡ true → ev l ≡ true
  last_in l is = let parts = and_parts (ev l) (not (ev (l + 1))) is in parts.0

  -- a region that shares a tick with the window
  shared : (f l : ℕ) → f ≤ w.closes → w.opens < l → w.opens < w.closes → f ≤ l → ((t : ℕ) → f ≤ t → t ≤ l → ev t ≡ true) → IsTouched ev w
  shared f l begins ends some ordered each = elim (cases_lt w.opens f) [
    | inl later ↦ record { tick = f; after = later; within = begins; is = each f (omega arith) ordered }
    | inr sooner ↦ record { tick = w.opens + 1; after = omega arith; within = omega (arith, some); is = each (w.opens + 1) (omega (arith, sooner)) (omega (arith, ends)) }
  ]

  met_parts : (r : Region) → meets w r ≡ true → (w.opens < r.last) × (r.first ≤ w.closes)
  met_parts r is =
      let parts = and_parts (not (is_before w r)) (not (is_after w r)) is in
      (false_le r.last w.opens (not_true (is_before w r) parts.0), false_lt w.closes r.first (not_true (is_after w r) parts.1))

  from_touches : (f : ℕ) → w.opens < w.closes → is_first p ev f ≡ true → meets w (region_from p ev f) ≡ true → IsTouched ev w
  from_touches f some is met =
      let parts = met_parts (region_from p ev f) met in
      shared f (region_from p ev f).last parts.1 parts.0 some (region_from_ordered p ev cyclic long f) (region_from_each p ev cyclic long f (first_in f is))

  to_touches : (l : ℕ) → w.opens < w.closes → is_last ev l ≡ true → meets w (region_to p ev l) ≡ true → IsTouched ev w
  to_touches l some is met =
      let parts = met_parts (region_to p ev l) met in
      shared (region_to p ev l).first l parts.1 parts.0 some (region_to_ordered p ev cyclic long l) (region_to_each p ev cyclic long l (last_in l is))

  pub met_touches : (ts : List ℕ) (r : Region) (rest : List Region) → w.opens < w.closes →
      filter (meets w) (map (region_from p ev) (filter (is_first p ev) ts)) ≡ r ∷ rest → IsTouched ev w
  met_touches [] r rest some is = absurd (cc)
  met_touches (t ∷ ts) r rest some is = by (is_first p ev t) refl (meets w (region_from p ev t)) refl is (λ more. met_touches ts r rest some more)
    where
      by : (a : Bool) → is_first p ev t ≡ a → (b : Bool) → meets w (region_from p ev t) ≡ b →
          filter (meets w) (map (region_from p ev) (cond a (t ∷ filter (is_first p ev) ts) (filter (is_first p ev) ts))) ≡ r ∷ rest →
          (filter (meets w) (map (region_from p ev) (filter (is_first p ev) ts)) ≡ r ∷ rest → IsTouched ev w) → IsTouched ev w
      by true first true met is more = from_touches t some first met
      by true first false met is more = more (sym (ap (λ (b : Bool). cond b (region_from p ev t ∷ filter (meets w) (map (region_from p ev) (filter (is_first p ev) ts))) (filter (meets w) (map (region_from p ev) (filter (is_first p ev) ts)))) met) ∙ is)
      by false first b met is more = more is

  -- ---- two launches

  pub record AreTwo (rs : List Region) (ticks : ℕ × ℕ) : Type 0 where
    pub inside : are_inside w ticks ≡ true
    pub region : Region
    pub one : rs ≡ region ∷ []

  inside_of : (o : Option (ℕ × ℕ)) (ticks : ℕ × ℕ) → if_inside w o ≡ Some ticks → are_inside w ticks ≡ true
  inside_of None ticks is = absurd (cc)
  inside_of (Some found) ticks is = by (are_inside w found) refl is
    where
      by : (b : Bool) → are_inside w found ≡ b → cond b (Some found) None ≡ Some ticks → are_inside w ticks ≡ true
      by true inside is = let same : found ≡ ticks = cc in ap (are_inside w) (sym same) ∙ inside
      by false inside is = absurd (cc)

  two_are : (rs : List Region) (ticks : ℕ × ℕ) → two_launches launches w rs ≡ Some ticks → AreTwo rs ticks
  two_are [] ticks is = absurd (cc)
  two_are (r ∷ []) ticks is = by (is_open w r) is
    where
      by : (b : Bool) → cond b (if_inside w (launches.two w r)) None ≡ Some ticks → AreTwo (r ∷ []) ticks
      by true is = record { inside = inside_of (launches.two w r) ticks is; region = r; one = refl }
      by false is = absurd (cc)
  two_are (r ∷ s ∷ more) ticks is = absurd (cc)

  -- ---- where a slack is broken a change is in the window

  last_touches : (o : Option ℕ) → w.opens < w.closes → last_before p ev (launches.side w) w ≡ o → is_broken (before_at p ev w o).slack ≡ true → IsTouched ev w
  last_touches None some is broken = absurd (cc)
  last_touches (Some u) some is broken =
      let less = not_below_zero w.opens u broken in
      let found = last_is _ (8 * p) (8 * p) u is in
      let parts = and_parts (is_last ev u) (counts_before (launches.side w) w (region_to p ev u)) found.passes in
      elim (or_either (is_before w (region_to p ev u)) (meets w (region_to p ev u) && is_late (side_of (launches.side w) w (region_to p ev u))) parts.1) [
        | inl before ↦ let most = true_le u w.opens before in absurd (omega (arith, most, less))
        | inr late ↦ to_touches u some parts.0
            (and_parts (meets w (region_to p ev u)) (is_late (side_of (launches.side w) w (region_to p ev u))) late).0
      ]

  first_touches : (o : Option ℕ) → w.opens < w.closes → first_after p ev (launches.side w) w ≡ o → is_broken (after_at p ev w o).slack ≡ true → IsTouched ev w
  first_touches None some is broken = absurd (cc)
  first_touches (Some v) some is broken =
      let less = not_below_zero v (w.closes + 1) broken in
      let found = first_is _ (8 * p) 0 v is in
      let parts = and_parts (is_first p ev v) (counts_after (launches.side w) w (region_from p ev v)) found.passes in
      elim (or_either (is_after w (region_from p ev v)) (meets w (region_from p ev v) && is_early (side_of (launches.side w) w (region_from p ev v))) parts.1) [
        | inl after ↦ let more = true_lt w.closes v after in absurd (omega (arith, more, less))
        | inr early ↦ from_touches v some parts.0
            (and_parts (meets w (region_from p ev v)) (is_early (side_of (launches.side w) w (region_from p ev v))) early).0
      ]

  two_touch : (ticks : ℕ × ℕ) → w.opens < w.closes → two_launches launches w (met p ev w) ≡ Some ticks → IsTouched ev w
  two_touch ticks some is =
      let two = two_are (met p ev w) ticks is in
      met_touches (range_with_len 0 (8 * p)) two.region [] some two.one

  pub before_touches : w.opens < w.closes → is_broken (before_window p ev launches w).slack ≡ true → IsTouched ev w
  before_touches some broken = by (two_launches launches w (met p ev w)) refl broken
    where
      by : (o : Option (ℕ × ℕ)) → two_launches launches w (met p ev w) ≡ o →
          is_broken (before_by p ev w o (last_before p ev (launches.side w) w)).slack ≡ true → IsTouched ev w
      by None is broken = last_touches (last_before p ev (launches.side w) w) some refl broken
      by (Some ticks) is broken = two_touch ticks some is

  pub after_touches : w.opens < w.closes → is_broken (after_window p ev launches w).slack ≡ true → IsTouched ev w
  after_touches some broken = by (two_launches launches w (met p ev w)) refl broken
    where
      by : (o : Option (ℕ × ℕ)) → two_launches launches w (met p ev w) ≡ o →
          is_broken (after_by p ev w o (first_after p ev (launches.side w) w)).slack ≡ true → IsTouched ev w
      by None is broken = first_touches (first_after p ev (launches.side w) w) some refl broken
      by (Some ticks) is broken = two_touch ticks some is

  -- ---- where a change is in the window one of the slacks is broken

  abbrev pub AreBroken : Option ℕ → Option ℕ → Type 0
  AreBroken last first = (is_broken (before_at p ev w last).slack ≡ true) ⊎ (is_broken (after_at p ev w first).slack ≡ true)

  module _ (z : ℕ) (none : ev z ≡ false) (below : z < p) (placed : IsPlaced p w) where
    broken_after : (u : ℕ) → w.opens < u → (o : Option ℕ) → o ≡ Some u → is_broken (before_at p ev w o).slack ≡ true
    broken_after u more o is = ap (λ (o : Option ℕ). is_broken (before_at p ev w o).slack) is ∙ below_zero w.opens u more

    broken_before : (v : ℕ) → v ≤ w.closes → (o : Option ℕ) → o ≡ Some v → is_broken (after_at p ev w o).slack ≡ true
    broken_before v less o is = ap (λ (o : Option ℕ). is_broken (after_at p ev w o).slack) is ∙ below_zero v (w.closes + 1) (omega (arith, less))

    pub regions_break : IsTouched ev w → AreBroken (last_before p ev (launches.side w) w) (first_after p ev (launches.side w) w)
    regions_break touched =
        let start = placed.after_start in
        let after = touched.after in
        by (around p ev cyclic long z none below touched.tick (omega (arith, start, after)) touched.is)
      where
        by : IsAround p ev cyclic long touched.tick → AreBroken (last_before p ev (launches.side w) w) (first_after p ev (launches.side w) w)
        by a =
            let start = placed.after_start in
            let end = placed.before_end in
            let after = touched.after in
            let within = touched.within in
            let from = a.from in
            let up_to = a.up_to in
            let near = a.near_last in
            let r : Region = record { first = a.first; last = a.last } in
            let met : meets w r ≡ true =
            and_from (not (is_before w r)) (not (is_after w r))
            (not_false (is_before w r) (le_false a.last w.opens (omega (arith, after, up_to))))
            (not_false (is_after w r) (lt_false w.closes a.first (omega (arith, from, within)))) in
            elim (sides (side_of (launches.side w) w r)) [
              | inl late ↦
                  let counts : counts_before (launches.side w) w (region_to p ev a.last) ≡ true =
                  ap (counts_before (launches.side w) w) (region_to_is p ev cyclic long a.first a.last a.region)
                  ∙ or_right (is_before w r) (meets w r && is_late (side_of (launches.side w) w r)) (and_from (meets w r) (is_late (side_of (launches.side w) w r)) met late) in
                  let found = last_from (λ t. is_last ev t && counts_before (launches.side w) w (region_to p ev t)) (8 * p) (8 * p) a.last
                  (omega (arith, near, within, end)) (omega (arith, up_to, after))
                  (and_from (is_last ev a.last) (counts_before (launches.side w) w (region_to p ev a.last)) (last_tick p ev cyclic long a.first a.last a.region) counts) in
                  let later = found.later in
                  inl (broken_after found.tick (omega (arith, later, up_to, after)) (last_before p ev (launches.side w) w) found.is)
              | inr early ↦
                  let counts : counts_after (launches.side w) w (region_from p ev a.first) ≡ true =
                  ap (counts_after (launches.side w) w) (region_from_is p ev cyclic long a.first a.last a.region)
                  ∙ or_right (is_after w r) (meets w r && is_early (side_of (launches.side w) w r)) (and_from (meets w r) (is_early (side_of (launches.side w) w r)) met early) in
                  let found = first_up_to (λ t. is_first p ev t && counts_after (launches.side w) w (region_from p ev t)) (8 * p) 0 a.first
                  (omega arith) (omega (arith, from, within, end))
                  (and_from (is_first p ev a.first) (counts_after (launches.side w) w (region_from p ev a.first)) (first_tick p ev cyclic long a.first a.last a.region) counts) in
                  let sooner = found.sooner in
                  inr (broken_before found.tick (omega (arith, sooner, from, within)) (first_after p ev (launches.side w) w) found.is)
            ]

    pub touched_breaks : IsTouched ev w →
        (is_broken (before_window p ev launches w).slack ≡ true) ⊎ (is_broken (after_window p ev launches w).slack ≡ true)
    touched_breaks touched = by (two_launches launches w (met p ev w)) refl
      where
        by : (o : Option (ℕ × ℕ)) → two_launches launches w (met p ev w) ≡ o →
            (is_broken (before_by p ev w o (last_before p ev (launches.side w) w)).slack ≡ true)
            ⊎ (is_broken (after_by p ev w o (first_after p ev (launches.side w) w)).slack ≡ true)
        by None is = regions_break touched
        by (Some ticks) is =
            let two = two_are (met p ev w) ticks is in
            elim (or_either (nat_lt w.opens ticks.0) (nat_le ticks.1 w.closes) two.inside) [
              | inl last ↦ inl (below_zero w.opens ticks.0 (true_lt w.opens ticks.0 last))
              | inr first ↦ let less = true_le ticks.1 w.closes first in inr (below_zero ticks.1 (w.closes + 1) (omega (arith, less)))
            ]
