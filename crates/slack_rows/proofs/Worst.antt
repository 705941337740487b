-- The number of a side is that of the worst of all ways.
use Rattle.std.proofs.Common.{inl, inr, ◌≡◌, ℕ, zero, suc, ◌+◌, ◌-◌, ◌<◌, ◌≤◌, Bool, true, false, not, ◌&&◌, ◌||◌, cond, eq-eqb, eqb-true, refl, sym, ap, subst, ◌∙◌, arith, List, [], ◌∷◌, ◌++◌, append-nil, append_assoc, map, take, drop, length, Option, Some, None}
use Rattle.std.specs.Prelude.{ℤ, pos, ◌+ℤ◌, ◌-ℤ◌, ◌==◌, int_lt, fold, is_some, nat_le, slice_get, unwrap_or}
use Rattle.std.specs.List.{AllByRecursion, list_any}
use Rattle.std.specs.Option.{option_and_then, option_map}
use Rattle.std.proofs.lemmas.Bool.{cases_lt}
use Rattle.std.proofs.lemmas.Int.{ints}
use Rattle.std.proofs.lemmas.List.Folds.{fold-map}
use Rattle.std.proofs.lemmas.List.Sums.{fold-append}
use Rattle.std.proofs.lemmas.Option.{same_Some, slice_get-map}
use Rattle.scald_base.specs.Time.{period}
use Rattle.flat_circuit.specs.Circuit.{Circuit}
use Rattle.fixpoint_engine.specs.Waves.{Waves, target_wire}
use Rattle.critical_paths.specs.declared.arrival.Arrival.{Arrival as Arrived}
use Rattle.critical_paths.specs.declared.arrival.Known.{Known}
use Rattle.critical_paths.specs.declared.arrival.Known.TheVariants.{Begun, Done}
use Rattle.critical_paths.specs.declared.arrival.Place.{Place}
use Rattle.critical_paths.specs.declared.direction.Corner.{Corner}
use Rattle.critical_paths.specs.declared.direction.Direction.TheVariants.{Change}
use Rattle.critical_paths.specs.declared.near.Near.{Near}
use Rattle.critical_paths.specs.declared.path.Paths.{Paths}
use Rattle.critical_paths.specs.declared.region.Region.{Region as Ticked}
use Rattle.critical_paths.specs.Path.{bound}
use Rattle.critical_paths.specs.Reached.{AreArrivals, KnowsArrivals, arrivals_in, arrived, is_done_known, known_of, range_of, range_within, times, times_in}
use Rattle.critical_paths.proofs.Exact.{done_ranged}
use Rattle.slack_rows.specs.declared.guard.Guard.{Guard}
use Rattle.slack_rows.specs.declared.held.Held.{Held}
use Rattle.slack_rows.specs.declared.slack.Finding.{Finding as Found}
use Rattle.slack_rows.specs.declared.slack.Slack.{Slack as Number}
use Rattle.slack_rows.specs.declared.slack.Slack.TheVariants.{Way as NumberOfWay}
use Rattle.slack_rows.specs.declared.slack.Reason.{Reason}
use Rattle.slack_rows.specs.declared.slack.Reason.TheVariants.{Data}
use Rattle.slack_rows.specs.declared.ways.Least.{Least}
use Rattle.slack_rows.specs.declared.window.Extent.{Extent}
use Rattle.slack_rows.specs.declared.window.Window.{Window as Ticks}
use Rattle.slack_rows.specs.Arrived.{AreWorkedOut, GuardsWorkedOut, arrivals_on, behind_wire, distance_of, finding_side, finding_way, is_nearer, moved_by, place_on, range_on, sought_at, with_guard, with_way, with_ways}
use Rattle.slack_rows.specs.Sides.{guarded, guards_of}
use Rattle.slack_rows.specs.Slack.{is_less}
use Rattle.slack_rows.specs.Views.{finding_none, slack_by, spare_at}
use Rattle.slack_rows.specs.Worst.{AreTimes, EndNowhere, IsWay, IsWorst, StarredIsWorst, Times}
use Rattle.slack_rows.proofs.Guarding.{all_more}
use Rattle.slack_rows.proofs.Levels.{get_first, get_second}
use Rattle.slack_rows.proofs.Launching.{get_more}
use Rattle.slack_rows.proofs.Marking.{none_lesser, or_none}
use Rattle.slack_rows.proofs.Stepwise.{some_same}

-- ---- lists

all_map : {A : Type 0} (P Q : A → Type 0) (xs : List A) → ((x : A) → P x → Q x) → AllByRecursion P xs → AllByRecursion Q xs
all_map P Q [] more all = tt
all_map P Q (x ∷ xs) more all = (more x all.0, all_map P Q xs more all.1)

all_at : {A : Type 0} (P : A → Type 0) (xs : List A) (k : ℕ) (x : A) → AllByRecursion P xs → slice_get xs k ≡ Some x → P x
all_at P [] k x all at = absurd (cc)
all_at P (y ∷ xs) zero x all at = subst P (some_same y x (Some y) refl at) all.0
all_at P (y ∷ xs) (suc k) x all at = all_at P xs k x all.1 at

all_first : {A : Type 0} (P : A → Type 0) (xs ys : List A) → AllByRecursion P (xs ++ ys) → AllByRecursion P xs × AllByRecursion P ys
all_first P [] ys all = (tt, all)
all_first P (x ∷ xs) ys all = let rest = all_first P xs ys all.1 in ((all.0, rest.0), rest.1)

last_at : {A : Type 0} (xs : List A) (x : A) → slice_get (xs ++ x ∷ []) (length xs + 0) ≡ Some x
last_at xs x = get_second xs (x ∷ []) 0

-- where it is mapped, it is mapped from one there
from_map : {A B : Type 0} (f : A → B) (xs : List A) (k : ℕ) (y : B) → slice_get (map f xs) k ≡ Some y →
    (x : A) × ((slice_get xs k ≡ Some x) × (f x ≡ y))
from_map f [] k y at = absurd (cc)
from_map f (x ∷ xs) zero y at = (x, (refl, some_same (f x) y (Some (f x)) refl at))
from_map f (x ∷ xs) (suc k) y at = from_map f xs k y at

in_map : {A B : Type 0} (f : A → B) (xs : List A) (k : ℕ) (x : A) → slice_get xs k ≡ Some x → slice_get (map f xs) k ≡ Some (f x)
in_map f xs k x at = slice_get-map f xs k ∙ ap (option_map f) at

map_take : {A B : Type 0} (f : A → B) (n : ℕ) (xs : List A) → map f (take n xs) ≡ take n (map f xs)
map_take f zero xs = refl
map_take f (suc n) [] = refl
map_take f (suc n) (x ∷ xs) = ap (λ (ys : List _). f x ∷ ys) (map_take f n xs)

map_drop : {A B : Type 0} (f : A → B) (n : ℕ) (xs : List A) → map f (drop n xs) ≡ drop n (map f xs)
map_drop f zero xs = refl
map_drop f (suc n) [] = refl
map_drop f (suc n) (x ∷ xs) = map_drop f n xs

none_at : {A : Type 0} (f : A → Bool) (xs : List A) (k : ℕ) (x : A) → list_any f xs ≡ false → slice_get xs k ≡ Some x → f x ≡ false
none_at f [] k x none at = absurd (cc)
none_at f (y ∷ xs) zero x none at =
    ap f (sym (some_same y x (Some y) refl at)) ∙ (or_none (f y) (list_any f xs) none).0
none_at f (y ∷ xs) (suc k) x none at = none_at f xs k x (or_none (f y) (list_any f xs) none).1 at

all_none : {A : Type 0} (f : A → Bool) (xs : List A) → ((k : ℕ) (x : A) → slice_get xs k ≡ Some x → f x ≡ false) → list_any f xs ≡ false
all_none f [] none = refl
all_none f (y ∷ xs) none = (λ i. none 0 y refl i || all_none f xs (λ k x at. none (suc k) x at) i)

abbrev time_of : Arrived → ℤ × ℤ
time_of a = (a.ideal, a.tick)

-- ---- numbers

not_less : (n : ℤ) → int_lt n n ≡ false
not_less n = grind (arith, ints)

less_then : (m n k : ℤ) → int_lt m n ≡ false → int_lt k n ≡ true → int_lt m k ≡ false
less_then m n k more less = grind (arith, ints)

on_true : (b : Bool) → not b ≡ true → b ≡ false
on_true true is = absurd (cc)
on_true false is = refl

module _ (c : Circuit) (held : Held) (corner : Corner) (paths : Paths) (guards : List Guard) where
  abbrev p : ℕ
  p = period c.header

  abbrev wire : ℕ
  wire = bound corner (target_wire c.nets held.pin.target)

  abbrev come : ℕ → Option (List Arrived)
  come clock = arrivals_on paths.known.entries paths.arrivals (place_on clock corner held.pin.target)

  abbrev counts : Guard × Arrived → Bool
  counts x = not (list_any (is_nearer corner p x.1.ideal x.0) guards)

  abbrev value : Guard × Arrived → Found
  value x = finding_way p (sought_at held corner x.0) x.1.ideal (behind_wire wire x.1)

  abbrev spare : Guard × Arrived → ℤ
  spare x = spare_at corner x.0.window ((x.1.tick +ℤ pos wire) -ℤ moved_by corner p x.1.ideal x.0.ideal)

  abbrev step : Option Found → Guard × Arrived → Option Found
  step best x = with_way (counts x) best (value x)

  -- ---- the best so far

  record HasBest (xs : List (Guard × Arrived)) (f : Found) : Type 0 where
    way : Guard × Arrived
    place : ℕ
    at : slice_get xs place ≡ Some way
    counted : counts way ≡ true
    number : f.slack ≡ NumberOfWay (spare way)
    least : AllByRecursion (λ y. counts y ≡ true → int_lt (spare y) (spare way) ≡ false) xs

  abbrev IsBest : List (Guard × Arrived) → Option Found → Type 0
  IsBest xs None = AllByRecursion (λ y. counts y ≡ false) xs
  IsBest xs (Some f) = HasBest xs f

  -- one that counts, with nothing before it that does
  first_best : (xs : List (Guard × Arrived)) (x : Guard × Arrived) → counts x ≡ true → AllByRecursion (λ y. counts y ≡ false) xs →
      HasBest (xs ++ x ∷ []) (value x)
  first_best xs x counted none = record {
    way = x;
    place = length xs + 0;
    at = last_at xs x;
    counted = counted;
    number = refl;
    least = all_more (λ y. counts y ≡ true → int_lt (spare y) (spare x) ≡ false) xs x
        (all_map (λ y. counts y ≡ false) (λ y. counts y ≡ true → int_lt (spare y) (spare x) ≡ false) xs
        (λ y off on. absurd (cc)) none)
        (λ on. not_less (spare x));
  }

  -- one that does not count, or has no less to spare
  kept_best : (xs : List (Guard × Arrived)) (x : Guard × Arrived) (f : Found) (so : HasBest xs f) →
      (counts x ≡ true → int_lt (spare x) (spare so.way) ≡ false) → HasBest (xs ++ x ∷ []) f
  kept_best xs x f so more = record {
    way = so.way;
    place = so.place;
    at = get_more xs (x ∷ []) so.place so.way so.at;
    counted = so.counted;
    number = so.number;
    least = all_more (λ y. counts y ≡ true → int_lt (spare y) (spare so.way) ≡ false) xs x so.least more;
  }

  next_best : (xs : List (Guard × Arrived)) (x : Guard × Arrived) (f : Found) (so : HasBest xs f) → counts x ≡ true →
      int_lt (spare x) (spare so.way) ≡ true → HasBest (xs ++ x ∷ []) (value x)
  next_best xs x f so counted less = record {
    way = x;
    place = length xs + 0;
    at = last_at xs x;
    counted = counted;
    number = refl;
    least = all_more (λ y. counts y ≡ true → int_lt (spare y) (spare x) ≡ false) xs x
        (all_map (λ y. counts y ≡ true → int_lt (spare y) (spare so.way) ≡ false)
        (λ y. counts y ≡ true → int_lt (spare y) (spare x) ≡ false) xs
        (λ y old on. less_then (spare y) (spare so.way) (spare x) (old on) less) so.least)
        (λ on. not_less (spare x));
  }

  best_more : (xs : List (Guard × Arrived)) (x : Guard × Arrived) (best : Option Found) → IsBest xs best → IsBest (xs ++ x ∷ []) (step best x)
  best_more xs x None so = by (counts x) refl
    where
      by : (b : Bool) → counts x ≡ b → IsBest (xs ++ x ∷ []) (with_way b None (value x))
      by true on = subst (IsBest (xs ++ x ∷ [])) (sym (none_lesser (Some (value x)))) (first_best xs x on so)
      by false off = all_more (λ y. counts y ≡ false) xs x so off
  best_more xs x (Some f) so = by (counts x) refl
    where
      less_is : is_less (slack_by (value x).slack) (slack_by f.slack) ≡ int_lt (spare x) (spare so.way)
      less_is = ap (λ (n : Number). is_less (slack_by (value x).slack) (slack_by n)) so.number

      choose : (b : Bool) → int_lt (spare x) (spare so.way) ≡ b → counts x ≡ true →
          IsBest (xs ++ x ∷ []) (cond b (Some (value x)) (Some f))
      choose true less on = next_best xs x f so on less
      choose false more on = kept_best xs x f so (λ again. more)

      by : (b : Bool) → counts x ≡ b → IsBest (xs ++ x ∷ []) (with_way b (Some f) (value x))
      by true on =
          subst (λ (b : Bool). IsBest (xs ++ x ∷ []) (cond b (Some (value x)) (Some f))) (sym less_is)
          (choose (int_lt (spare x) (spare so.way)) refl on)
      by false off = kept_best xs x f so (λ on. absurd (cc))

  best_all : (xs past : List (Guard × Arrived)) (best : Option Found) → IsBest past best → IsBest (past ++ xs) (fold step best xs)
  best_all [] past best so = subst (λ (ys : List (Guard × Arrived)). IsBest ys best) (sym (append-nil past)) so
  best_all (x ∷ xs) past best so =
      subst (λ (ys : List (Guard × Arrived)). IsBest ys (fold step (step best x) xs)) (append_assoc past (x ∷ []) xs)
      (best_all xs (past ++ x ∷ []) (step best x) (best_more past x best so))

  -- ---- all pairs of an edge and an arrival

  abbrev of_edge : Guard → List (Guard × Arrived)
  of_edge g = map (λ (a : Arrived). (g, a)) (unwrap_or (come g.net) [])

  abbrev pairs : List Guard → List (Guard × Arrived)
  pairs [] = []
  pairs (g ∷ gs) = of_edge g ++ pairs gs

  abbrev with_edge : Least → Guard → Least
  with_edge so g = with_guard c paths.known.entries paths.arrivals guards held corner so g

  one_edge : (so : Least) (g : Guard) → (with_edge so g).best ≡ fold step so.best (of_edge g)
  one_edge so g = by (come g.net)
    where
      by : (o : Option (List Arrived)) → (with_ways p wire guards (sought_at held corner g) so o).best
          ≡ fold step so.best (map (λ (a : Arrived). (g, a)) (unwrap_or o []))
      by None = refl
      by (Some some) = sym (fold-map step (λ (a : Arrived). (g, a)) so.best some)

  all_edges : (gs : List Guard) (so : Least) → (fold with_edge so gs).best ≡ fold step so.best (pairs gs)
  all_edges [] so = refl
  all_edges (g ∷ gs) so =
      all_edges gs (with_edge so g) ∙ ap (λ (b : Option Found). fold step b (pairs gs)) (one_edge so g)
      ∙ sym (fold-append step so.best (of_edge g) (pairs gs))

  -- a pair is one of them
  record IsPair (gs : List Guard) (x : Guard × Arrived) : Type 0 where
    edge_at : ℕ
    edge : slice_get gs edge_at ≡ Some x.0
    some : List Arrived
    are : come x.0.net ≡ Some some
    arrival_at : ℕ
    arrival : slice_get some arrival_at ≡ Some x.1

  of_one : (g : Guard) (o : Option (List Arrived)) → come g.net ≡ o → (k : ℕ) (x : Guard × Arrived) →
      slice_get (map (λ (a : Arrived). (g, a)) (unwrap_or o [])) k ≡ Some x → (gs : List Guard) → IsPair (g ∷ gs) x
  of_one g None come_is k x at gs = absurd (cc)
  of_one g (Some some) come_is k x at gs =
      let found = from_map (λ (a : Arrived). (g, a)) some k x at in
      subst (IsPair (g ∷ gs)) found.1.1 record {
        edge_at = 0;
        edge = refl;
        some = some;
        are = come_is;
        arrival_at = k;
        arrival = found.1.0;
      }

  pair_of : (gs : List Guard) (k : ℕ) (x : Guard × Arrived) → slice_get (pairs gs) k ≡ Some x → IsPair gs x
  pair_of [] k x at = absurd (cc)
  pair_of (g ∷ gs) k x at = elim (cases_lt k (length (of_edge g))) [
    | inl less ↦ of_one g (come g.net) refl k x (sym (get_first (of_edge g) (pairs gs) k less) ∙ at) gs
    | inr past ↦
        let same : length (of_edge g) + (k - length (of_edge g)) ≡ k = omega (arith, past) in
        let rest = pair_of gs (k - length (of_edge g)) x
        (sym (get_second (of_edge g) (pairs gs) (k - length (of_edge g))) ∙ ap (slice_get (of_edge g ++ pairs gs)) same ∙ at) in
        record {
          edge_at = suc rest.edge_at;
          edge = rest.edge;
          some = rest.some;
          are = rest.are;
          arrival_at = rest.arrival_at;
          arrival = rest.arrival;
        }
  ]

  -- what holds of all holds of each
  each_pair : (P : Guard × Arrived → Type 0) (gs : List Guard) (i : ℕ) (g : Guard) (some : List Arrived) (k : ℕ) (a : Arrived) →
      AllByRecursion P (pairs gs) → slice_get gs i ≡ Some g → come g.net ≡ Some some → slice_get some k ≡ Some a → P (g, a)
  each_pair P [] i g some k a all at come_is here = absurd (cc)
  each_pair P (own ∷ gs) zero g some k a all at come_is here =
      let same : own ≡ g = some_same own g (Some own) refl at in
      let mine : come own.net ≡ Some some = ap (λ (x : Guard). come x.net) same ∙ come_is in
      let first = (all_first P (of_edge own) (pairs gs) all).0 in
      let among = subst (λ (o : Option (List Arrived)). AllByRecursion P (map (λ (y : Arrived). (own, y)) (unwrap_or o []))) mine first in
      subst (λ (x : Guard). P (x, a)) same
      (all_at P (map (λ (y : Arrived). (own, y)) some) k (own, a) among (in_map (λ (y : Arrived). (own, y)) some k a here))
  each_pair P (own ∷ gs) (suc i) g some k a all at come_is here =
      each_pair P gs i g some k a (all_first P (of_edge own) (pairs gs) all).1 at come_is here

  -- ---- the edge that a launch is for

  nearest_none : (g : Guard) (launch : ℤ) (k : ℕ) (other : Guard) → list_any (is_nearer corner p launch g) guards ≡ false →
      slice_get guards k ≡ Some other → other.net ≡ g.net →
      int_lt (distance_of corner p launch other.ideal) (distance_of corner p launch g.ideal) ≡ false
  nearest_none g launch k other none at same =
      sym (ap (λ (b : Bool). b && int_lt (distance_of corner p launch other.ideal) (distance_of corner p launch g.ideal)) (eq-eqb other.net g.net same))
      ∙ none_at (is_nearer corner p launch g) guards k other none at

  none_nearer : (g : Guard) (launch : ℤ) →
      ((k : ℕ) (other : Guard) → slice_get guards k ≡ Some other → other.net ≡ g.net →
      int_lt (distance_of corner p launch other.ideal) (distance_of corner p launch g.ideal) ≡ false) →
      list_any (is_nearer corner p launch g) guards ≡ false
  none_nearer g launch far =
      all_none (is_nearer corner p launch g) guards
      (λ k other at. by other (other.net == g.net) refl (λ same. far k other at same))
    where
      by : (other : Guard) (b : Bool) → (other.net == g.net) ≡ b →
          (other.net ≡ g.net → int_lt (distance_of corner p launch other.ideal) (distance_of corner p launch g.ideal) ≡ false) →
          (b && int_lt (distance_of corner p launch other.ideal) (distance_of corner p launch g.ideal)) ≡ false
      by other true is far = far (eqb-true other.net g.net is)
      by other false is far = refl

  -- ---- what is known of arrivals

  abbrev when : Times
  when clock = option_map (map time_of) (come clock)

  module _ (ws : Waves) (knows : KnowsArrivals c ws paths) where
    same_times : (all : List Near) → map time_of (map arrived all) ≡ times all
    same_times [] = refl
    same_times (a ∷ all) = ap (λ (ts : List (ℤ × ℤ)). (a.ideal, a.tick) ∷ ts) (same_times all)

    times_are : (all : List Near) (from past : ℕ) → map time_of (arrivals_in all (from, past)) ≡ times_in all from past
    times_are all from past =
        map_take time_of (past - from) (drop from (map arrived all))
        ∙ ap (take (past - from)) (map_drop time_of from (map arrived all) ∙ ap (drop from) (same_times all))

    abbrev between : Option (ℕ × ℕ) → Option (List (ℤ × ℤ))
    between range = option_map (map time_of) (option_map (arrivals_in paths.arrivals) range)

    are_times : AreTimes c ws held corner when
    are_times clock some is = at_place (place_on clock corner held.pin.target) refl is
      where
        done : (place : Place) (from past : ℕ) → known_of paths.known.entries place ≡ Some (Done from past) → (b : Bool) →
            between (cond b (Some (from, past)) None) ≡ Some some → AreArrivals c ws place some
        done place from past known false is = absurd (cc)
        done place from past known true is =
            subst (AreArrivals c ws place)
            (sym (times_are paths.arrivals from past)
            ∙ same_Some (map time_of (arrivals_in paths.arrivals (from, past))) some is)
            (knows.exact.each place from past known).2

        of_known : (place : Place) (o : Option Known) → known_of paths.known.entries place ≡ o →
            between (option_and_then (range_within (length paths.arrivals)) o) ≡ Some some → AreArrivals c ws place some
        of_known place None known is = absurd (cc)
        of_known place (Some Begun) known is = absurd (cc)
        of_known place (Some (Done from past)) known is =
            done place from past known (nat_le from past && nat_le past (length paths.arrivals)) is

        at_place : (o : Option Place) → place_on clock corner held.pin.target ≡ o →
            between (range_on paths.known.entries (length paths.arrivals) o) ≡ Some some →
            (place : Place) × ((place_on clock corner held.pin.target ≡ Some place) × AreArrivals c ws place some)
        at_place None on is = absurd (cc)
        at_place (Some place) on is = (place, (on, of_known place (known_of paths.known.entries place) refl is))

    end_nowhere : (clock : ℕ) → AreWorkedOut paths.known.entries (place_on clock corner held.pin.target) →
        EndNowhere c ws held corner clock when
    end_nowhere clock worked place none on few =
        by (known_of paths.known.entries place) refl (subst (AreWorkedOut paths.known.entries) on worked)
        (ap (λ (o : Option Place). between (range_on paths.known.entries (length paths.arrivals) o)) (sym on) ∙ none)
      where
        no_range : (o : Option (ℕ × ℕ)) → is_some o ≡ true → between o ≡ None → ⊥
        no_range None some none = absurd (cc)
        no_range (Some range) some none = absurd (cc)

        by : (o : Option Known) → known_of paths.known.entries place ≡ o →
            is_some (known_of paths.known.entries place) ≡ true →
            between (range_of paths.known.entries (length paths.arrivals) place) ≡ None → ⊥
        by None known worked none =
            let bad : false ≡ true = sym (ap (λ (o : Option Known). is_some o) known) ∙ worked in absurd (cc)
        by (Some Begun) known worked none =
            let search = knows.ended.ended place known few in
            let nothing = search.1.1 in
            absurd (cc)
        by (Some (Done from past)) known worked none =
            no_range (range_of paths.known.entries (length paths.arrivals) place)
            (done_ranged c ws paths place knows.exact (ap is_done_known known)) none

    -- ---- all ways

    module _ (extent : Extent) (edges : List Ticked) (guards_are : map guarded guards ≡ guards_of c ws held corner extent edges)
        (worked : GuardsWorkedOut paths.known.entries held corner guards) where
      abbrev all_guards : List (Ticks × (ℕ × ℤ))
      all_guards = guards_of c ws held corner extent edges

      guard_in : (k : ℕ) (g : Guard) → slice_get guards k ≡ Some g → slice_get all_guards k ≡ Some (guarded g)
      guard_in k g at = ap (λ (gs : List (Ticks × (ℕ × ℤ))). slice_get gs k) (sym guards_are) ∙ in_map guarded guards k g at

      guard_from : (k : ℕ) (e : Ticks × (ℕ × ℤ)) → slice_get all_guards k ≡ Some e →
          (g : Guard) × ((slice_get guards k ≡ Some g) × (guarded g ≡ e))
      guard_from k e at = from_map guarded guards k e (ap (λ (gs : List (Ticks × (ℕ × ℤ))). slice_get gs k) guards_are ∙ at)

      abbrev spare_of : Ticks × (ℕ × ℤ) → ℤ × ℤ → ℤ
      spare_of e t = spare_at corner e.0 ((t.1 +ℤ pos wire) -ℤ moved_by corner p t.0 e.1.1)

      abbrev is_before : Ticks × (ℕ × ℤ) → ℤ × ℤ → ℤ → Bool
      is_before e t other = int_lt (distance_of corner p t.0 other) (distance_of corner p t.0 e.1.1)

      -- a pair that counts is a way
      way_of : (x : Guard × Arrived) (n : ℤ) → IsPair guards x → counts x ≡ true → n ≡ spare x →
          IsWay c ws held corner all_guards when n
      way_of x n pair counted is = record {
        window = x.0.window;
        clock = x.0.net;
        edge = x.0.ideal;
        guard_at = pair.edge_at;
        guard = guard_in pair.edge_at x.0 pair.edge;
        some = map time_of pair.some;
        are = ap (option_map (map time_of)) pair.are;
        launch = x.1.ideal;
        tick = x.1.tick;
        time_at = pair.arrival_at;
        time = in_map time_of pair.some pair.arrival_at x.1 pair.arrival;
        nearest = λ k w other at.
            (let found = guard_from k (w, (x.0.net, other)) at in
            let net : found.0.net ≡ x.0.net = ap (λ (e : Ticks × (ℕ × ℤ)). e.1.0) found.1.1 in
            let edge : found.0.ideal ≡ other = ap (λ (e : Ticks × (ℕ × ℤ)). e.1.1) found.1.1 in
            subst (λ (e : ℤ). is_before (guarded x.0) (time_of x.1) e ≡ false) edge
            (nearest_none x.0 x.1.ideal k found.0 (on_true (list_any (is_nearer corner p x.1.ideal x.0) guards) counted) found.1.0 net));
        is = is;
      }

      mapped : (o : Option (List Arrived)) (some : List (ℤ × ℤ)) → option_map (map time_of) o ≡ Some some →
          (found : List Arrived) × ((o ≡ Some found) × (map time_of found ≡ some))
      mapped None some is = absurd (cc)
      mapped (Some found) some is = (found, (refl, same_Some (map time_of found) some is))

      -- and each way is one of a pair that counts
      way_least : (way : Guard × Arrived) → AllByRecursion (λ y. counts y ≡ true → int_lt (spare y) (spare way) ≡ false) (pairs guards) →
          (other : ℤ) → IsWay c ws held corner all_guards when other → int_lt other (spare way) ≡ false
      way_least way least other w =
          let g = guard_from w.guard_at (w.window, (w.clock, w.edge)) w.guard in
          let net : g.0.net ≡ w.clock = ap (λ (e : Ticks × (ℕ × ℤ)). e.1.0) g.1.1 in
          let some = mapped (come w.clock) w.some w.are in
          let a = from_map time_of some.0 w.time_at (w.launch, w.tick)
          (ap (λ (ts : List (ℤ × ℤ)). slice_get ts w.time_at) some.1.1 ∙ w.time) in
          let far : list_any (is_nearer corner p a.0.ideal g.0) guards ≡ false = none_nearer g.0 a.0.ideal
          (λ k o at same.
          ((λ i. is_before (g.1.1 i) (a.1.1 i) o.ideal)
          ∙ w.nearest k o.window o.ideal (guard_in k o at
          ∙ ap (λ (n : ℕ). Some (o.window, (n, o.ideal))) (same ∙ net)))) in
          let own = each_pair (λ y. counts y ≡ true → int_lt (spare y) (spare way) ≡ false) guards w.guard_at g.0 some.0 w.time_at a.0 least
          g.1.0 (ap come net ∙ some.1.0) a.1.0 (ap not far) in
          let number : spare (g.0, a.0) ≡ other = (λ i. spare_of (g.1.1 i) (a.1.1 i)) ∙ sym w.is in
          ap (λ (n : ℤ). int_lt n (spare way)) (sym number) ∙ own

      pub worst : (found : Found) (number : ℤ) →
          Some found ≡ Some (finding_side c paths.known.entries paths.arrivals held corner guards) →
          found.slack ≡ NumberOfWay number → IsWorst c ws held corner extent edges number
      worst found number is slack =
          let ended = all_edges guards start in
          let so = best_all (pairs guards) [] None tt in
          by (fold step None (pairs guards)) so
          (ap (λ (b : Option Found). (unwrap_or b (finding_none reason held.place Change)).slack) (sym ended)
          ∙ ap (λ (f : Found). f.slack) (sym (same_Some found _ is)) ∙ slack)
        where
          start : Least
          start = record { best = None; reason = Data }

          reason : Reason
          reason = (fold with_edge start guards).reason

          by : (b : Option Found) → IsBest (pairs guards) b →
              (unwrap_or b (finding_none reason held.place Change)).slack ≡ NumberOfWay number →
              IsWorst c ws held corner extent edges number
          by None so slack = absurd (cc)
          by (Some f) so slack =
              let same : spare so.way ≡ number = (let both = sym so.number ∙ slack in cc) in
              record {
                times = when;
                are = are_times;
                ended = λ k w clock edge at.
                    (let g = guard_from k (w, (clock, edge)) at in
                    let net : g.0.net ≡ clock = ap (λ (e : Ticks × (ℕ × ℤ)). e.1.0) g.1.1 in
                    end_nowhere clock
                    (subst (λ (n : ℕ). AreWorkedOut paths.known.entries (place_on n corner held.pin.target)) net (worked k g.0 g.1.0)));
                of = way_of so.way number (pair_of guards so.place so.way so.at) so.counted (sym same);
                least = λ other w. subst (λ (n : ℤ). int_lt other n ≡ false) same (way_least so.way so.least other w);
              }

pub starred_is_worst : StarredIsWorst
starred_is_worst c ws paths held corner extent edges found number knows side slack =
    worst c held corner paths side.guards ws knows extent edges side.guards_are side.known found number side.is slack
