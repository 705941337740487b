-- Two launches that may make the only region that meets a window: whichever is told, neither side is free, and one is broken.
use Rattle.std.proofs.Common.{inl, inr, ◌≡◌, ◌⊎◌, ℕ, ◌*◌, ◌<◌, ◌≤◌, Bool, true, false, not, ◌&&◌, ◌||◌, cond, refl, sym, ap, ◌∙◌, arith, List, [], ◌∷◌, Option, Some, None}
use Rattle.std.specs.Prelude.{ℤ, pos, int_lt, int_le, filter, is_some}
use Rattle.std.specs.List.{range_with_len}
use Rattle.std.specs.Option.{option_map, option_or}
use Rattle.std.proofs.lemmas.Bool.{and_parts, and_from, or_left, or_right}
use Rattle.std.proofs.lemmas.Int.{ints}
use Rattle.flat_circuit.specs.Circuit.{Circuit}
use Rattle.fixpoint_engine.specs.Waves.{Waves}
use Rattle.critical_paths.specs.Event.{Events}
use Rattle.critical_paths.specs.Region.{IsCyclic, Region, all_events, regions_from}
use Rattle.slack_rows.specs.declared.held.Held.{Held}
use Rattle.slack_rows.specs.Window.{Window, Side, Late, Early, Either, begins_before, counts_after, counts_before, ends_after, is_after, is_before, is_early, is_late, meets, met, side_by_ends, side_of}
use Rattle.slack_rows.specs.Slack.{Launches, after_at, after_by, after_window, before_at, before_by, before_window, first_after, is_broken, is_free, is_open, last_before, two_alone, two_in, two_launches}
use Rattle.slack_rows.specs.Laws.{IsPlaced, IsTouched}
use Rattle.slack_rows.specs.Launched.{are_two, side_by}
use Rattle.slack_rows.specs.Held.{BreakOne, first_ago, first_item, last_ago, last_item, launches_of, two_of}
use Rattle.slack_rows.proofs.Near.{first_found, last_found}
use Rattle.slack_rows.proofs.Watched.{some_gap}
use Rattle.slack_rows.proofs.Windows.{met_touches, regions_break, touched_breaks}

-- ---- the only region

record IsAlone (two : Window → Region → Bool) (w : Window) (rs : List Region) : Type 0 where
  region : Region
  one : rs ≡ region ∷ []
  open_is : is_open w region ≡ true
  two_is : two w region ≡ true

alone : (two : Window → Region → Bool) (w : Window) (rs : List Region) → two_alone two w rs ≡ true → IsAlone two w rs
alone two w [] is = absurd (cc)
alone two w (r ∷ []) is =
    let parts = and_parts (is_open w r) (two w r) is in
    record { region = r; one = refl; open_is = parts.0; two_is = parts.1 }
alone two w (r ∷ s ∷ more) is = absurd (cc)

-- ---- it counts on both sides

not_late : (n : ℤ) → int_le n (pos 0) ≡ true → int_lt (pos 0) n ≡ false
not_late n is = grind (arith, ints)

not_early : (n : ℤ) → int_lt (pos 0) n ≡ true → int_le n (pos 0) ≡ false
not_early n is = grind (arith, ints)

two_either : (last first : Option ℤ) → are_two last first ≡ true → side_by last first ≡ Either
two_either None first is = absurd (cc)
two_either (Some last) None is = absurd (cc)
two_either (Some last) (Some first) is =
    let parts = and_parts (int_le last (pos 0)) (int_lt (pos 0) first) is in
    let late = not_late last parts.0 in
    let early = not_early first parts.1 in
    (λ i. cond (late i && int_lt (pos 0) first) Late (cond (parts.0 i && early i) Early Either))

open_side : (a b : Bool) (launched : Region → Side) (r : Region) → cond a b (not b) ≡ true → launched r ≡ Either →
    side_by_ends a b launched r ≡ Either
open_side true true launched r is either = either
open_side true false launched r is either = absurd (cc)
open_side false true launched r is either = absurd (cc)
open_side false false launched r is either = either

some_or : {A : Type 0} (o : Option A) (x : A) → is_some (option_or o (Some x)) ≡ true
some_or None x = refl
some_or (Some y) x = refl

more_last : (b : Bool) (r : Region) (rs : List Region) → is_some (last_item rs) ≡ true → is_some (last_item (cond b (r ∷ rs) rs)) ≡ true
more_last true r rs is = some_or (last_item rs) r
more_last false r rs is = is

more_first : (b : Bool) (r : Region) (rs : List Region) → is_some (first_item rs) ≡ true → is_some (first_item (cond b (r ∷ rs) rs)) ≡ true
more_first true r rs is = refl
more_first false r rs is = is

-- what passes one test and so another one is among those that pass that
module _ (one other : Region → Bool) (r : Region) (passes : one r ≡ true → other r ≡ true) where
  some_last : (xs rest : List Region) → filter one xs ≡ r ∷ rest → is_some (last_item (filter other xs)) ≡ true
  some_last [] rest is = absurd (cc)
  some_last (x ∷ xs) rest is = by (one x) refl is (λ more. some_last xs rest more)
    where
      by : (b : Bool) → one x ≡ b → cond b (x ∷ filter one xs) (filter one xs) ≡ r ∷ rest →
          (filter one xs ≡ r ∷ rest → is_some (last_item (filter other xs)) ≡ true) →
          is_some (last_item (cond (other x) (x ∷ filter other xs) (filter other xs))) ≡ true
      by true here is more =
          let same : x ≡ r = cc in
          let own : other x ≡ true = ap other same ∙ passes (ap one (sym same) ∙ here) in
          ap (λ (b : Bool). is_some (last_item (cond b (x ∷ filter other xs) (filter other xs)))) own ∙ some_or (last_item (filter other xs)) x
      by false here is more = more_last (other x) x (filter other xs) (more is)

  some_first : (xs rest : List Region) → filter one xs ≡ r ∷ rest → is_some (first_item (filter other xs)) ≡ true
  some_first [] rest is = absurd (cc)
  some_first (x ∷ xs) rest is = by (one x) refl is (λ more. some_first xs rest more)
    where
      by : (b : Bool) → one x ≡ b → cond b (x ∷ filter one xs) (filter one xs) ≡ r ∷ rest →
          (filter one xs ≡ r ∷ rest → is_some (first_item (filter other xs)) ≡ true) →
          is_some (first_item (cond (other x) (x ∷ filter other xs) (filter other xs))) ≡ true
      by true here is more =
          let same : x ≡ r = cc in
          let own : other x ≡ true = ap other same ∙ passes (ap one (sym same) ∙ here) in
          ap (λ (b : Bool). is_some (first_item (cond b (x ∷ filter other xs) (filter other xs)))) own
      by false here is more = more_first (other x) x (filter other xs) (more is)

some_map : (f : Region → ℕ) (o : Option Region) → is_some o ≡ true → is_some (option_map f o) ≡ true
some_map f None is = absurd (cc)
some_map f (Some r) is = refl

or_is : (a b : Bool) → (a ≡ true) ⊎ (b ≡ true) → (a || b) ≡ true
or_is a b (inl is) = or_left a b is
or_is a b (inr is) = or_right a b is

-- ---- what is told

module _ (p : ℕ) (ev : Events) (cyclic : IsCyclic p ev) (long : 2 ≤ p) (some : all_events p ev ≡ false) (c : Circuit) (ws : Waves)
    (held : Option Held) (w : Window) (placed : IsPlaced p w) (two : two_in p ev (two_of c ws held) w ≡ true) where
  abbrev launches : Launches
  launches = launches_of c ws held

  abbrev side : Region → Side
  side = launches.side w

  known : IsAlone (two_of c ws held) w (met p ev w)
  known = alone (two_of c ws held) w (met p ev w) two

  gap : (z : ℕ) × (ev z ≡ false) × (z < p)
  gap = some_gap p ev cyclic long some

  touched : IsTouched ev w
  touched = met_touches p ev cyclic long launches w (range_with_len 0 (8 * p)) known.region [] placed.some known.one

  either : side known.region ≡ Either
  either = by held known.two_is
    where
      by : (held : Option Held) → two_of c ws held w known.region ≡ true → (launches_of c ws held).side w known.region ≡ Either
      by None is = absurd (cc)
      by (Some h) is = two_either (last_ago c ws h w known.region) (first_ago c ws h w known.region) is

  side_is : side_of side w known.region ≡ Either
  side_is = open_side (begins_before w known.region) (ends_after w known.region) side known.region known.open_is either

  counts_both : (meets w known.region ≡ true → counts_before side w known.region ≡ true)
      × (meets w known.region ≡ true → counts_after side w known.region ≡ true)
  counts_both = (
    λ meet. or_right (is_before w known.region) (meets w known.region && is_late (side_of side w known.region))
        (and_from (meets w known.region) (is_late (side_of side w known.region)) meet (ap is_late side_is)),
    λ meet. or_right (is_after w known.region) (meets w known.region && is_early (side_of side w known.region))
        (and_from (meets w known.region) (is_early (side_of side w known.region)) meet (ap is_early side_is)),
  )

  last_some : is_some (last_before p ev side w) ≡ true
  last_some =
      let (z, none, below) = gap in
      ap (λ (o : Option ℕ). is_some o) (last_found p ev cyclic long z none below side w placed)
      ∙ some_map (λ (r : Region). r.last) (last_item (filter (counts_before side w) (regions_from p ev (8 * p) 0)))
      (some_last (meets w) (counts_before side w) known.region counts_both.0 (regions_from p ev (8 * p) 0) [] known.one)

  first_some : is_some (first_after p ev side w) ≡ true
  first_some =
      let (z, none, below) = gap in
      ap (λ (o : Option ℕ). is_some o) (first_found p ev cyclic long z none below side w placed)
      ∙ some_map (λ (r : Region). r.first) (first_item (filter (counts_after side w) (regions_from p ev (8 * p) 0)))
      (some_first (meets w) (counts_after side w) known.region counts_both.1 (regions_from p ev (8 * p) 0) [] known.one)

  before_not_free : (o : Option ℕ) → is_some o ≡ true → is_free (before_at p ev w o).slack ≡ false
  before_not_free None is = absurd (cc)
  before_not_free (Some t) is = refl

  after_not_free : (o : Option ℕ) → is_some o ≡ true → is_free (after_at p ev w o).slack ≡ false
  after_not_free None is = absurd (cc)
  after_not_free (Some t) is = refl

  -- by the regions
  pub regions_one : BreakOne (before_at p ev w (last_before p ev side w)).slack (after_at p ev w (first_after p ev side w)).slack
  regions_one =
      let (z, none, below) = gap in
      record {
        before = before_not_free (last_before p ev side w) last_some;
        after = after_not_free (first_after p ev side w) first_some;
        broken = or_is (is_broken (before_at p ev w (last_before p ev side w)).slack) (is_broken (after_at p ev w (first_after p ev side w)).slack)
            (regions_break p ev cyclic long launches w z none below placed touched);
      }

  -- by what arrives, or the regions
  pub finding_one : BreakOne (before_window p ev launches w).slack (after_window p ev launches w).slack
  finding_one =
      let (z, none, below) = gap in
      record {
        before = before (two_launches launches w (met p ev w));
        after = after (two_launches launches w (met p ev w));
        broken = or_is (is_broken (before_window p ev launches w).slack) (is_broken (after_window p ev launches w).slack)
            (touched_breaks p ev cyclic long launches w z none below placed touched);
      }
    where
      before : (o : Option (ℕ × ℕ)) → is_free (before_by p ev w o (last_before p ev side w)).slack ≡ false
      before None = before_not_free (last_before p ev side w) last_some
      before (Some ticks) = refl

      after : (o : Option (ℕ × ℕ)) → is_free (after_by p ev w o (first_after p ev side w)).slack ≡ false
      after None = after_not_free (first_after p ev side w) first_some
      after (Some ticks) = refl
