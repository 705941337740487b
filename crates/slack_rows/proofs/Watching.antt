-- What is told of a watch, by the slots of changes and of edges that the program has found.
use Rattle.std.proofs.Common.{inl, inr, ◌≡◌, ℕ, zero, suc, ◌+◌, ◌-◌, ◌*◌, ◌%◌, ◌<◌, ◌≤◌, Bool, true, false, not, ◌&&◌, ◌||◌, cond, refl, sym, ap, subst, ◌∙◌, arith, List, [], ◌∷◌, length, map, Option, Some, None}
use Rattle.std.specs.Prelude.{ℤ, pos, ◌+ℤ◌, ◌-ℤ◌, ◌==◌, filter, unsigned_abs}
use Rattle.std.specs.List.{All, list_any, range_with_len}
use Rattle.std.proofs.lemmas.Bool.{and_parts, cases_eq, ne_eqb}
use Rattle.slack_rows.proofs.Cycles.{in_slot}
use Rattle.std.proofs.lemmas.Int.{ints}
use Rattle.std.proofs.lemmas.List.Elements.{All-cons, All-map, All-nil}
use Rattle.std.proofs.Math.Nat.{mod-lt}
use Rattle.step_values.specs.declared.value.Value.{Value}
use Rattle.fixpoint_engine.specs.Pins.{read}
use Rattle.critical_paths.specs.declared.direction.Direction.{Direction}
use Rattle.critical_paths.specs.declared.region.Slots.{Slots}
use Rattle.critical_paths.specs.declared.region.Test.TheVariants.{May, Lacks}
use Rattle.critical_paths.specs.Event.{Events, events, is_first}
use Rattle.critical_paths.specs.Region.{IsCyclic, Region, all_events, region_from, regions, some_event}
use Rattle.critical_paths.specs.Views.{passing, ticks_of_region}
use Rattle.critical_paths.proofs.Runs.{first_tick}
use Rattle.slack_rows.specs.declared.window.Extent.{Extent}
use Rattle.slack_rows.specs.declared.slack.Slacks.{Slacks}
use Rattle.slack_rows.specs.declared.slack.Finding.{Finding as Found}
use Rattle.slack_rows.specs.Window.{Window, about}
use Rattle.slack_rows.specs.Slack.{Free, Launches, NoNumber, Finding, Watch, after_window, before_window, by_way, is_broken, is_free, is_met, least, finding_after, finding_alone, finding_before, finding_by, finding_of, two_in, without_number}
use Rattle.slack_rows.specs.Limit.{is_by_arrivals}
use Rattle.slack_rows.specs.Views.{IsFinding, Tells, ahead_of, is_starred, slack_finding, window_about, window_in}
use Rattle.slack_rows.specs.Held.{AreAlike, AreChanges, AreOfWays, AreSlots, IsInPeriod, IsSlots, TellWatch, TellWindows, lacking, windows_about}
use Rattle.slack_rows.proofs.Alike.{alike_broken, alike_none, alike_finding, starred_break, starred_broken, starred_free}
use Rattle.slack_rows.proofs.Checkers.{region_ends}
use Rattle.slack_rows.proofs.Regions.{covered}
use Rattle.slack_rows.proofs.Watched.{every, in_some_slot, some_gap, some_tick}

-- ---- regions in the period

module _ (p : ℕ) (ev : Events) where
  region_within : (f : ℕ) → f < p → IsInPeriod p (ticks_of_region (region_from p ev f))
  region_within f below =
      let (ordered, near) = region_ends p ev f (omega (arith, below)) in
      record {
        from = omega (arith, ints);
        ordered = omega (arith, ints, ordered);
        near = omega (arith, ints, near, below);
      }

  within_from : (n i : ℕ) → i + n ≤ p →
      All (λ r. IsInPeriod p (ticks_of_region r)) (map (region_from p ev) (filter (is_first p ev) (range_with_len i n)))
  within_from zero i within = All-nil (λ r. IsInPeriod p (ticks_of_region r))
  within_from (suc n) i within =
      by (is_first p ev i) (region_within i (omega (arith, within))) (within_from n (i + 1) (omega (arith, within)))
    where
      by : (b : Bool) → IsInPeriod p (ticks_of_region (region_from p ev i)) →
          All (λ r. IsInPeriod p (ticks_of_region r)) (map (region_from p ev) (filter (is_first p ev) (range_with_len (i + 1) n))) →
          All (λ r. IsInPeriod p (ticks_of_region r)) (map (region_from p ev) (cond b (i ∷ filter (is_first p ev) (range_with_len (i + 1) n)) (filter (is_first p ev) (range_with_len (i + 1) n))))
      by true here rest = All-cons (λ r. IsInPeriod p (ticks_of_region r)) (region_from p ev i) _ here rest
      by false here rest = rest

  pub all_within : All (IsInPeriod p) (map ticks_of_region (regions p ev))
  all_within = All-map (IsInPeriod p) ticks_of_region (regions p ev) (within_from p 0 (omega arith))

  few_from : (n i : ℕ) → length (filter (is_first p ev) (range_with_len i n)) ≤ n
  few_from zero i = omega arith
  few_from (suc n) i = by (is_first p ev i) (few_from n (i + 1))
    where
      by : (b : Bool) → length (filter (is_first p ev) (range_with_len (i + 1) n)) ≤ n →
          length (cond b (i ∷ filter (is_first p ev) (range_with_len (i + 1) n)) (filter (is_first p ev) (range_with_len (i + 1) n))) ≤ suc n
      by true rest = omega (arith, rest)
      by false rest = omega (arith, rest)

  pub few_regions : length (map ticks_of_region (regions p ev)) ≤ p
  few_regions =
      let first = long_map ticks_of_region (regions p ev) in
      let second = long_map (region_from p ev) (filter (is_first p ev) (range_with_len 0 p)) in
      let few = few_from p 0 in
      omega (arith, first, second, few)
    where
      long_map : {A B : Type 0} (f : A → B) (xs : List A) → length (map f xs) ≡ length xs
      long_map f [] = refl
      long_map f (x ∷ xs) = let rest = long_map f xs in omega (arith, rest)

  -- ---- none, and some

  module _ (cyclic : IsCyclic p ev) (long : 2 ≤ p) where
    first_here : (ts : List ℕ) (f : ℕ) → is_first p ev f ≡ true → (n i : ℕ) → i ≤ f → f < i + n → filter (is_first p ev) (range_with_len i n) ≡ [] → ⊥
    first_here ts f is zero i from below none = absurd (omega (arith, from, below))
    first_here ts f is (suc n) i from below none =
        by (is_first p ev i) refl none (λ later more rest. first_here ts f is n (i + 1) later more rest)
      where
        by : (b : Bool) → is_first p ev i ≡ b → cond b (i ∷ filter (is_first p ev) (range_with_len (i + 1) n)) (filter (is_first p ev) (range_with_len (i + 1) n)) ≡ [] →
            (i + 1 ≤ f → f < i + 1 + n → filter (is_first p ev) (range_with_len (i + 1) n) ≡ [] → ⊥) → ⊥
        by true here none next = absurd (cc)
        by false here none next = elim (cases_eq f i) [
          | inl same ↦ absurd (cc (sym here ∙ ap (is_first p ev) (sym same) ∙ is))
          | inr other ↦ next (omega (arith, from, other)) (omega (arith, below)) none
        ]

    empty_map : {A B : Type 0} (f : A → B) (xs : List A) → length (map f xs) ≡ 0 → xs ≡ []
    empty_map f [] none = refl
    empty_map f (x ∷ xs) none = absurd (omega (arith, none))

    no_regions : length (map ticks_of_region (regions p ev)) ≡ 0 → filter (is_first p ev) (range_with_len 0 p) ≡ []
    no_regions none = empty_map (region_from p ev) (filter (is_first p ev) (range_with_len 0 p)) (ap length (empty_map ticks_of_region (regions p ev) none))

    -- without a region nothing happens
    pub nothing_here : all_events p ev ≡ false → length (map ticks_of_region (regions p ev)) ≡ 0 → some_event p ev ≡ false
    nothing_here some none = by (some_event p ev) refl
      where
        by : (b : Bool) → some_event p ev ≡ b → b ≡ false
        by false is = refl
        by true is =
            let event = some_tick p ev cyclic long is in
            let (z, gap, below) = some_gap p ev cyclic long some in
            let slot : ev (event.tick % p) ≡ true = in_slot p ev cyclic event.tick ∙ event.is in
            let c = covered p ev cyclic long z gap below (event.tick % p) (mod-lt event.tick (omega (arith, long))) slot in
            let under = c.below in
            absurd (first_here [] c.first (first_tick p ev cyclic long c.first c.last c.region) p 0 (omega arith) (omega (arith, under)) (no_regions none))

    -- with one something does
    pub something_here : (length (map ticks_of_region (regions p ev)) ≡ 0 → ⊥) → some_event p ev ≡ true
    something_here some = by (filter (is_first p ev) (range_with_len 0 p)) refl
      where
        first_of : (n i : ℕ) (t : ℕ) (ts : List ℕ) → filter (is_first p ev) (range_with_len i n) ≡ t ∷ ts → is_first p ev t ≡ true
        first_of zero i t ts is = absurd (cc)
        first_of (suc n) i t ts is = at (is_first p ev i) refl is (λ more. first_of n (i + 1) t ts more)
          where
            at : (b : Bool) → is_first p ev i ≡ b → cond b (i ∷ filter (is_first p ev) (range_with_len (i + 1) n)) (filter (is_first p ev) (range_with_len (i + 1) n)) ≡ t ∷ ts →
                (filter (is_first p ev) (range_with_len (i + 1) n) ≡ t ∷ ts → is_first p ev t ≡ true) → is_first p ev t ≡ true
            at true here is next = let same : i ≡ t = cc in ap (is_first p ev) (sym same) ∙ here
            at false here is next = next is

        by : (ts : List ℕ) → filter (is_first p ev) (range_with_len 0 p) ≡ ts → some_event p ev ≡ true
        by [] is = absurd (some (ap (λ (xs : List ℕ). length (map ticks_of_region (map (region_from p ev) xs))) is))
        by (t ∷ ts) is =
            let here = first_of p 0 t ts is in
            let event = (and_parts (ev t) (not (ev (t + (p - 1)))) here).0 in
            in_some_slot p ev cyclic long t t (omega (arith, long)) event

    -- where it always does no region begins
    pub all_here : all_events p ev ≡ true → regions p ev ≡ []
    all_here all = ap (map (region_from p ev)) (none_from p 0)
      where
        always : (t : ℕ) → ev t ≡ true
        always t = every p ev cyclic long all t t (omega (arith, long))

        none_first : (t : ℕ) → is_first p ev t ≡ false
        none_first t = ap (λ (b : Bool). ev t && not b) (always (t + (p - 1))) ∙ right_none (ev t)
          where
            right_none : (b : Bool) → (b && false) ≡ false
            right_none true = refl
            right_none false = refl

        none_from : (n i : ℕ) → filter (is_first p ev) (range_with_len i n) ≡ []
        none_from zero i = refl
        none_from (suc n) i = ap (λ (b : Bool). cond b (i ∷ filter (is_first p ev) (range_with_len (i + 1) n)) (filter (is_first p ev) (range_with_len (i + 1) n))) (none_first i) ∙ none_from n (i + 1)

    pub some_where_all : all_events p ev ≡ true → some_event p ev ≡ true
    some_where_all all = in_some_slot p ev cyclic long 0 0 (omega (arith, long)) (every p ev cyclic long all 0 0 (omega (arith, long)))

-- ---- tests

pub may_are : (d : Direction) (cells : List Value) → passing (May d) cells ≡ events d (read cells)
unfolding passing
may_are d cells = refl

pub lacks_are : (d : Direction) (cells : List Value) → passing (Lacks d) cells ≡ lacking d (read cells)
unfolding passing
lacks_are d cells = refl

-- ---- slots

pub slots_close : (p : ℕ) (ev : Events) (slots : Slots) → p ≤ 4096 → slots.regions ≡ map ticks_of_region (regions p ev) → IsSlots p slots
slots_close p ev slots short are =
    record {
      within = subst (All (IsInPeriod p)) (sym are) (all_within p ev);
      few = let few = few_regions p ev in let long = ap length are in omega (arith, few, long, short);
    }

pub slots_at : (n p : ℕ) (ev : Events) (slots : Slots) → n ≡ p → slots.are_all ≡ all_events n ev → slots.regions ≡ map ticks_of_region (regions n ev) →
    AreSlots p ev slots
slots_at n p ev slots same all are =
    record {
      all = all ∙ ap (λ (m : ℕ). all_events m ev) same;
      regions = are ∙ ap (λ (m : ℕ). map ticks_of_region (regions m ev)) same;
    }

pub changes_are : (p : ℕ) (ev : Events) (slots : Slots) → IsCyclic p ev → AreSlots p ev slots → slots.are_all ≡ false → AreChanges p ev slots.regions
changes_are p ev slots cyclic are some =
    record { cyclic = cyclic; some = sym are.all ∙ some; are = are.regions }

-- ---- windows about edges

window_is : (p : ℕ) (limits : Extent) (r : Region) → limits.before ≤ 3 * p → window_in p (window_about (ticks_of_region r) limits) ≡ about p limits r
window_is p limits r short =
    λ i. record {
      edge_first = at r.first i;
      edge_last = at r.last i;
      opens = opens_at i;
      closes = closes_at i;
    }
  where
    at : (t : ℕ) → ahead_of p (pos t) ≡ 3 * p + t
    at t = let sum : pos (3 * p) +ℤ pos t ≡ pos (3 * p + t) = omega (arith, ints) in ap unsigned_abs sum

    opens_at : ahead_of p (pos r.first -ℤ pos limits.before +ℤ pos 1 -ℤ pos 1) ≡ 3 * p + r.first - limits.before
    opens_at =
        let sum : pos (3 * p) +ℤ (pos r.first -ℤ pos limits.before +ℤ pos 1 -ℤ pos 1) ≡ pos (3 * p + r.first - limits.before) = omega (arith, ints, short) in
        ap unsigned_abs sum

    closes_at : ahead_of p (pos r.last +ℤ pos limits.after) ≡ 3 * p + r.last + limits.after
    closes_at =
        let sum : pos (3 * p) +ℤ (pos r.last +ℤ pos limits.after) ≡ pos (3 * p + r.last + limits.after) = omega (arith, ints) in
        ap unsigned_abs sum

pub windows_are : (p : ℕ) (limits : Extent) (rs : List Region) → limits.before ≤ p →
    windows_about p limits (map ticks_of_region rs) ≡ map (about p limits) rs
windows_are p limits [] short = refl
windows_are p limits (r ∷ rs) short =
    (λ i. window_is p limits r (omega (arith, short)) i ∷ windows_are p limits rs short i)

-- ---- what is told of a watch

abbrev finding_cases : Bool → Bool → Bool → Option ℤ → Finding → Finding
finding_cases some all never way windows =
    cond some (cond (all || never) (finding_alone (without_number never way)) windows) (finding_alone Free)

or_true : (a : Bool) → (a || true) ≡ true
or_true true = refl
or_true false = refl

and_false : (a : Bool) → (a && false) ≡ false
and_false true = refl
and_false false = refl

met_never : (windows : List Window) → is_met windows true ≡ true
met_never [] = refl
met_never (w ∷ windows) = refl

module _ (at : Window → Finding) (p : ℕ) (watch : Watch) where
  -- no change, or no window
  pub finding_free : (way : Option ℤ) → some_event p watch.changes ≡ false → finding_by at way p watch ≡ finding_alone Free
  finding_free way none =
      ap (λ (s : Bool). finding_cases (s && is_met watch.windows watch.never) (all_events p watch.changes) watch.never way (least (map at watch.windows))) none

  pub finding_unmet : (way : Option ℤ) → watch.windows ≡ [] → watch.never ≡ false → finding_by at way p watch ≡ finding_alone Free
  finding_unmet way none never =
      (λ i. finding_cases (some_event p watch.changes && is_met (none i) (never i)) (all_events p watch.changes) watch.never way (least (map at watch.windows)))
      ∙ ap (λ (s : Bool). finding_cases s (all_events p watch.changes) watch.never way (least (map at watch.windows))) (and_false (some_event p watch.changes))

  pub finding_without : (way : Option ℤ) → some_event p watch.changes ≡ true → watch.never ≡ true → finding_by at way p watch ≡ finding_alone NoNumber
  finding_without way some never =
      (λ i. finding_cases (some i && is_met watch.windows (never i)) (all_events p watch.changes) (never i) way (least (map at watch.windows)))
      ∙ ap (λ (s : Bool). finding_cases s (all_events p watch.changes) true way (least (map at watch.windows))) (met_never watch.windows)
      ∙ ap (λ (s : Bool). cond s (finding_alone NoNumber) (least (map at watch.windows))) (or_true (all_events p watch.changes))

  pub finding_windows : (way : Option ℤ) → some_event p watch.changes ≡ true → all_events p watch.changes ≡ false → watch.never ≡ false →
      finding_by at way p watch ≡ least (map at watch.windows)
  finding_windows way some all never =
      (λ i. finding_cases (some i && is_met watch.windows (never i)) (all i) (never i) way (least (map at watch.windows))) ∙ by watch.windows
    where
      by : (windows : List Window) → finding_cases (is_met windows false) false false way (least (map at windows)) ≡ least (map at windows)
      by [] = refl
      by (w ∷ windows) = refl

  -- where changes may always come, and nothing is known of ways
  pub finding_always : some_event p watch.changes ≡ true → all_events p watch.changes ≡ true → watch.never ≡ false → (watch.windows ≡ [] → ⊥) →
      finding_by at None p watch ≡ finding_alone NoNumber
  finding_always some all never met =
      (λ i. finding_cases (some i && is_met watch.windows (never i)) (all i) (never i) None (least (map at watch.windows))) ∙ by watch.windows met
    where
      by : (windows : List Window) → (windows ≡ [] → ⊥) → finding_cases (is_met windows false) true false None (least (map at windows)) ≡ finding_alone NoNumber
      by [] met = absurd (met refl)
      by (w ∷ windows) met = refl

  -- changes may always come, about some window
  pub finding_starred : (way : Option ℤ) → some_event p watch.changes ≡ true → all_events p watch.changes ≡ true → watch.never ≡ false →
      is_met watch.windows false ≡ true → finding_by at way p watch ≡ finding_alone (by_way way)
  finding_starred way some all never met =
      (λ i. finding_cases (some i && is_met watch.windows (never i)) (all i) (never i) way (least (map at watch.windows)))
      ∙ ap (λ (m : Bool). finding_cases m true false way (least (map at watch.windows))) met

pub way_starred : (way : Option ℤ) → is_starred (by_way way) ≡ true
way_starred None = refl
way_starred (Some n) = refl

-- whatever is known of ways, where they have no say
pub same_ways : (at : Window → Finding) (p : ℕ) (watch : Watch) (way other : Option ℤ) →
    (all_events p watch.changes && is_met watch.windows false) ≡ false → finding_by at way p watch ≡ finding_by at other p watch
same_ways at p watch way other exact = by (some_event p watch.changes) (all_events p watch.changes) watch.windows watch.never exact
  where
    by : (some all : Bool) (windows : List Window) (never : Bool) → (all && is_met windows false) ≡ false →
        finding_cases (some && is_met windows never) all never way (least (map at windows))
        ≡ finding_cases (some && is_met windows never) all never other (least (map at windows))
    by false all windows never exact = refl
    by true all [] true exact = refl
    by true all [] false exact = refl
    by true all (w ∷ windows) true exact = refl
    by true true (w ∷ windows) false exact = absurd (cc)
    by true false (w ∷ windows) false exact = refl

-- Whatever is known of ways: whether something can break it, and whether it is broken.
pub alike_ways : (at : Window → Finding) (p : ℕ) (watch : Watch) (way other : Option ℤ) →
    (is_free (finding_by at way p watch).slack ≡ is_free (finding_by at other p watch).slack)
    × (is_broken (finding_by at way p watch).slack ≡ is_broken (finding_by at other p watch).slack)
alike_ways at p watch way other = by (some_event p watch.changes) (all_events p watch.changes) watch.windows watch.never
  where
    by : (some all : Bool) (windows : List Window) (never : Bool) →
        (is_free (finding_cases (some && is_met windows never) all never way (least (map at windows))).slack
        ≡ is_free (finding_cases (some && is_met windows never) all never other (least (map at windows))).slack)
        × (is_broken (finding_cases (some && is_met windows never) all never way (least (map at windows))).slack
        ≡ is_broken (finding_cases (some && is_met windows never) all never other (least (map at windows))).slack)
    by false all windows never = (refl, refl)
    by true all [] true = (refl, refl)
    by true all [] false = (refl, refl)
    by true all (w ∷ windows) true = (refl, refl)
    by true true (w ∷ windows) false = (
      starred_free (by_way way) (way_starred way) ∙ sym (starred_free (by_way other) (way_starred other)),
      starred_broken (by_way way) (way_starred way) ∙ sym (starred_broken (by_way other) (way_starred other)),
    )
    by true false (w ∷ windows) false = (refl, refl)

-- ---- in the program's words

-- nothing is told where nothing can break
pub tells_free : (p pin : ℕ) (d : Direction) (finding : Finding) (found : Option Found) → finding ≡ finding_alone Free → found ≡ None →
    Tells p found (finding_of pin d finding)
tells_free p pin d finding found is none =
    subst (λ (o : Option Found). Tells p o (finding_of pin d finding)) (sym none) (ap (λ (t : Finding). t.slack) is)

pub or_parts : (a b : Bool) → (a || b) ≡ false → (a ≡ false) × (b ≡ false)
or_parts true b is = absurd (cc)
or_parts false b is = (refl, is)

no_window : (windows : List Window) → is_met windows false ≡ false → windows ≡ []
no_window [] none = refl
no_window (w ∷ windows) none = absurd (cc)

-- about some edge
pub met_edges : {A : Type 0} (f : A → Window) (edges : List A) → not (length edges == 0) ≡ is_met (map f edges) false
met_edges f [] = refl
met_edges f (e ∷ edges) = ap not (ne_eqb (suc (length edges)) 0 (λ same. absurd (omega (arith, same))))

module _ (p : ℕ) (launches : Launches) (two : Window → Region → Bool) (pin : ℕ) (d : Direction) (watch : Watch) (found : Slacks) where
  abbrev before : Window → Finding
  before = before_window p watch.changes launches

  abbrev after : Window → Finding
  after = after_window p watch.changes launches

  -- of a watch whose windows these are
  module _ (windows : List Window) (are : windows ≡ watch.windows) (some : some_event p watch.changes ≡ true) (never : watch.never ≡ false)
      (level : found.level ≡ None)
      (tells : all_events p watch.changes ≡ false → TellWindows p watch.changes launches two pin d windows found)
      (ways : all_events p watch.changes ≡ true → AreOfWays (is_met watch.windows false) found) where
    windows_before : all_events p watch.changes ≡ false → finding_before p launches watch ≡ least (map before windows)
    windows_before all = finding_windows before p watch launches.last_way some all never ∙ ap (λ (ws : List Window). least (map before ws)) (sym are)

    windows_after : all_events p watch.changes ≡ false → finding_after p launches watch ≡ least (map after windows)
    windows_after all = finding_windows after p watch launches.first_way some all never ∙ ap (λ (ws : List Window). least (map after ws)) (sym are)

    exact_parts : is_by_arrivals p two watch ≡ false →
        ((all_events p watch.changes && is_met watch.windows false) ≡ false) × (list_any (two_in p watch.changes two) watch.windows ≡ false)
    exact_parts exact = or_parts (all_events p watch.changes && is_met watch.windows false) (list_any (two_in p watch.changes two) watch.windows) exact

    unmet : all_events p watch.changes ≡ true → is_by_arrivals p two watch ≡ false → is_met watch.windows false ≡ false
    unmet all exact = ap (λ (b : Bool). b && is_met watch.windows false) (sym all) ∙ (exact_parts exact).0

    exact_before : (b : Bool) → all_events p watch.changes ≡ b → is_by_arrivals p two watch ≡ false →
        Tells p found.before (finding_of pin d (finding_before p launches watch))
    exact_before false all exact =
        let finding = tells all in
        subst (Tells p found.before) (ap (finding_of pin d) (sym (windows_before all)))
        (finding.before (ap (list_any (two_in p watch.changes two)) are ∙ (exact_parts exact).1))
    exact_before true all exact =
        let none = subst (λ (b : Bool). AreOfWays b found) (unmet all exact) (ways all) in
        tells_free p pin d (finding_before p launches watch) found.before
        (finding_unmet before p watch launches.last_way (no_window watch.windows (unmet all exact)) never) none.0

    exact_after : (b : Bool) → all_events p watch.changes ≡ b → is_by_arrivals p two watch ≡ false →
        Tells p found.after (finding_of pin d (finding_after p launches watch))
    exact_after false all exact =
        let finding = tells all in
        subst (Tells p found.after) (ap (finding_of pin d) (sym (windows_after all)))
        (finding.after (ap (list_any (two_in p watch.changes two)) are ∙ (exact_parts exact).1))
    exact_after true all exact =
        let none = subst (λ (b : Bool). AreOfWays b found) (unmet all exact) (ways all) in
        tells_free p pin d (finding_after p launches watch) found.after
        (finding_unmet after p watch launches.first_way (no_window watch.windows (unmet all exact)) never) none.1

    alike_always : all_events p watch.changes ≡ true → (b : Bool) → is_met watch.windows false ≡ b →
        AreAlike found (finding_before p launches watch).slack (finding_after p launches watch).slack
    alike_always all false none =
        let free = subst (λ (b : Bool). AreOfWays b found) none (ways all) in
        alike_none found (finding_before p launches watch).slack (finding_after p launches watch).slack free.0 free.1
        (ap (λ (t : Finding). t.slack) (finding_unmet before p watch launches.last_way (no_window watch.windows none) never))
        (ap (λ (t : Finding). t.slack) (finding_unmet after p watch launches.first_way (no_window watch.windows none) never))
    alike_always all true met =
        let starred = subst (λ (b : Bool). AreOfWays b found) met (ways all) in
        alike_broken found (finding_before p launches watch).slack (finding_after p launches watch).slack
        (starred_break (slack_finding found.before) (slack_finding found.after) starred.0 starred.1)
        (starred_break (finding_before p launches watch).slack (finding_after p launches watch).slack
        (ap (λ (t : Finding). is_starred t.slack) (finding_starred before p watch launches.last_way some all never met) ∙ way_starred launches.last_way)
        (ap (λ (t : Finding). is_starred t.slack) (finding_starred after p watch launches.first_way some all never met) ∙ way_starred launches.first_way))

    alike : (b : Bool) → all_events p watch.changes ≡ b →
        AreAlike found (finding_before p launches watch).slack (finding_after p launches watch).slack
    alike false all =
        let finding = tells all in
        subst (λ (t : Finding). AreAlike found t.slack (finding_after p launches watch).slack) (sym (windows_before all))
        (subst (λ (t : Finding). AreAlike found (least (map before windows)).slack t.slack) (sym (windows_after all)) finding.alike)
    alike true all = alike_always all (is_met watch.windows false) refl

    pub tell_watch : TellWatch p launches (is_by_arrivals p two watch) pin d watch found
    tell_watch =
        record {
          level = level;
          before = exact_before (all_events p watch.changes) refl;
          after = exact_after (all_events p watch.changes) refl;
          alike = alike (all_events p watch.changes) refl;
        }

  -- of one that is never to change
  module _ (finding : Found) (some : some_event p watch.changes ≡ true) (never : watch.never ≡ true) (finding_is : IsFinding p finding (finding_of pin d (finding_alone NoNumber)))
      (is : found ≡ record { level = None; before = Some finding; after = Some finding }) where
    never_before : Tells p found.before (finding_of pin d (finding_before p launches watch))
    never_before =
        subst (λ (o : Option Found). Tells p o (finding_of pin d (finding_before p launches watch))) (sym (ap (λ (s : Slacks). s.before) is))
        (subst (IsFinding p finding) (sym (ap (finding_of pin d) (finding_without before p watch launches.last_way some never))) finding_is)

    never_after : Tells p found.after (finding_of pin d (finding_after p launches watch))
    never_after =
        subst (λ (o : Option Found). Tells p o (finding_of pin d (finding_after p launches watch))) (sym (ap (λ (s : Slacks). s.after) is))
        (subst (IsFinding p finding) (sym (ap (finding_of pin d) (finding_without after p watch launches.first_way some never))) finding_is)

    pub tell_never : TellWatch p launches (is_by_arrivals p two watch) pin d watch found
    tell_never =
        record {
          level = ap (λ (s : Slacks). s.level) is;
          before = λ exact. never_before;
          after = λ exact. never_after;
          alike = alike_finding p found (finding_of pin d (finding_before p launches watch)) (finding_of pin d (finding_after p launches watch))
              never_before never_after;
        }
