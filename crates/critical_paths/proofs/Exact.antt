-- What is worked out is exact, and stays so as more is.
use Rattle.std.proofs.Common.{◌≡◌, ℕ, zero, suc, ◌+◌, ◌-◌, ◌<◌, ◌≤◌, Bool, true, false, cond, Option, List, [], ◌∷◌, ◌++◌, length, refl, sym, ap, subst, ◌∙◌, arith, None, Some, ℤ, append-nil, append_assoc, inl, inr}
use Rattle.std.specs.Prelude.{is_some, nat_le, slice_get}
use Rattle.std.specs.Option.{option_and_then}
use Rattle.std.proofs.lemmas.Bool.{and_from, cases_lt, le-leb}
use Rattle.std.proofs.lemmas.List.{map-append}
use Rattle.std.proofs.lemmas.Option.{same_Some, slice_get_within}
use Rattle.flat_circuit.specs.Circuit.{Circuit}
use Rattle.fixpoint_engine.specs.Waves.{Waves}
use Rattle.critical_paths.specs.declared.arrival.Known.{Known}
use Rattle.critical_paths.specs.declared.arrival.Known.TheVariants.{Begun, Done}
use Rattle.critical_paths.specs.declared.arrival.Place.{Place}
use Rattle.critical_paths.specs.declared.gather.Reached.{Reached}
use Rattle.critical_paths.specs.declared.near.Near.{Near}
use Rattle.critical_paths.specs.declared.path.Node.{Node}
use Rattle.critical_paths.specs.declared.path.Paths.{Paths}
use Rattle.critical_paths.specs.Known.{Grows}
use Rattle.critical_paths.specs.Reached.{AreArrivals, AreExact, AreWays, Extends, HasWay, HaveWays, IsAppended, IsSearch, IsWay, KnowsArrivals, Stand, StandsAt, gathered, is_done, is_done_known, known_of, range_of, range_within, same_place, time_of, times, times_in}
use Rattle.critical_paths.proofs.Arriving.{some_at}
use Rattle.critical_paths.proofs.Appended.{done_is, each_done}
use Rattle.critical_paths.proofs.Nodes.{get_end, get_more}
use Rattle.critical_paths.proofs.Places.{place_is}
use Rattle.critical_paths.proofs.Ways.{has_grown, way_grown}

-- what stood there before more came
pub get_before : {X : Type 0} (xs ys : List X) (k : ℕ) → k < length xs →
    slice_get (xs ++ ys) k ≡ slice_get xs k
get_before [] ys k less = absurd (omega (arith, less))
get_before (x ∷ xs) ys zero less = refl
get_before (x ∷ xs) ys (suc k) less = get_before xs ys k (omega (arith, less))

-- ---- one arrival more

pub times_appended : (old new : List Near) (r : Reached) (n : ℕ) → IsAppended old new r n →
    times new ≡ times old ++ time_of r ∷ []
times_appended old new r n app =
    ap times app.is ∙ map-append (λ (a : Near). (a.ideal, a.tick)) old (app.arrival ∷ [])
    ∙ ap (λ (t : ℤ × ℤ). times old ++ t ∷ []) app.time

pub extends_none : (all : List Near) → Extends all all
extends_none all = record { more = []; is = sym (append-nil all) }

pub extends_one : (first old new : List Near) (r : Reached) (n : ℕ) → Extends first old →
    IsAppended old new r n → Extends first new
extends_one first old new r n extends app = record {
  more = extends.more ++ app.arrival ∷ [];
  is = app.is ∙ ap (λ (l : List Near). l ++ app.arrival ∷ []) extends.is
      ∙ append_assoc first extends.more (app.arrival ∷ []);
}

pub extends_then : (first mid new : List Near) → Extends first mid → Extends mid new →
    Extends first new
extends_then first mid new a b = record {
  more = a.more ++ b.more;
  is = b.is ∙ ap (λ (l : List Near). l ++ b.more) a.is ∙ append_assoc first a.more b.more;
}

-- those before it stand where they stood
stands_more : (old new : Paths) (r a : Reached) (n at : ℕ) →
    IsAppended old.arrivals new.arrivals r n → new.nodes ≡ old.nodes ++ r.event ∷ [] →
    StandsAt old at a → StandsAt new at a
stands_more old new r a n at app nodes stands = record {
  arrival = stands.arrival;
  is = ap (λ (l : List Near). slice_get l at) app.is
      ∙ get_more old.arrivals (app.arrival ∷ []) at stands.arrival stands.is;
  time = stands.time;
  event = ap (λ (l : List Node). slice_get l stands.arrival.node) nodes
      ∙ get_more old.nodes (r.event ∷ []) stands.arrival.node a.event stands.event;
}

-- and it stands last
stands_last : (old new : Paths) (r : Reached) (at : ℕ) → at ≡ length old.arrivals →
    IsAppended old.arrivals new.arrivals r (length old.nodes) →
    new.nodes ≡ old.nodes ++ r.event ∷ [] → StandsAt new at r
stands_last old new r at last app nodes = record {
  arrival = app.arrival;
  is = (λ i. slice_get (app.is i) (last i)) ∙ get_end old.arrivals app.arrival;
  time = app.time;
  event = (λ i. slice_get (nodes i) (app.node i)) ∙ get_end old.nodes r.event;
}

-- so many of those that are found stand at their places
abbrev pub StandUpTo : Paths → ℕ → ℕ → List Reached → Type 0
StandUpTo paths from past found = (k : ℕ) (a : Reached) → k < past →
    slice_get found k ≡ Some a → StandsAt paths (from + k) a

pub stand_one : (old new : Paths) (from n : ℕ) (found : List Reached) (r : Reached) →
    slice_get found n ≡ Some r → from + n ≡ length old.arrivals →
    IsAppended old.arrivals new.arrivals r (length old.nodes) →
    new.nodes ≡ old.nodes ++ r.event ∷ [] → StandUpTo old from n found →
    StandUpTo new from (n + 1) found
stand_one old new from n found r here last app nodes stand k a less at =
    elim (cases_lt k n) [
      | inl before ↦ stands_more old new r a (length old.nodes) (from + k) app nodes (stand k a before at)
      | inr past ↦
          let one : k ≡ n = omega (arith, less, past) in
          let same : r ≡ a = same_Some r a
          (sym here ∙ sym (ap (λ (m : ℕ). slice_get found m) one) ∙ at) in
          subst (StandsAt new (from + k)) same
          (stands_last old new r (from + k) (ap (λ (m : ℕ). from + m) one ∙ last) app nodes)
    ]

pub stand_same : (old new : Paths) (from : ℕ) (found : List Reached) →
    new.nodes ≡ old.nodes → new.arrivals ≡ old.arrivals → StandUpTo old from (length found) found →
    Stand new from found
stand_same old new from found nodes arrivals stand k a at =
    let stands = stand k a (slice_get_within found k a at) at in
    record {
      arrival = stands.arrival;
      is = ap (λ (l : List Near). slice_get l (from + k)) arrivals ∙ stands.is;
      time = stands.time;
      event = ap (λ (l : List Node). slice_get l stands.arrival.node) nodes ∙ stands.event;
    }

module _ (c : Circuit) (ws : Waves) where
  -- what is begun, and what else comes to the nodes
  pub exact_grown : (old new : Paths) → Grows old.nodes new.nodes →
      new.arrivals ≡ old.arrivals →
      ((q : Place) (from past : ℕ) → known_of new.known.entries q ≡ Some (Done from past) →
      known_of old.known.entries q ≡ Some (Done from past)) →
      AreExact c ws old → AreExact c ws new
  exact_grown old new grows same others exact = record {
    each = λ q from past at.
        subst (λ (all : List Near).
        (from ≤ past) × (past ≤ length all) × AreArrivals c ws q (times_in all from past)) (sym same)
        (exact.each q from past (others q from past at));
    ways = λ q from past at k a low high here.
        has_grown c ws old.nodes new.nodes q a grows
        (exact.ways q from past (others q from past at) k a low high
        (sym (ap (λ (all : List Near). slice_get all k) same) ∙ here));
  }

  -- what is done stands among all
  pub done_ranged : (paths : Paths) (q : Place) → AreExact c ws paths →
      is_done paths.known.entries q ≡ true →
      is_some (range_of paths.known.entries (length paths.arrivals) q) ≡ true
  done_ranged paths q exact done = by (known_of paths.known.entries q) refl done
    where
      by : (o : Option Known) → known_of paths.known.entries q ≡ o → is_done_known o ≡ true →
          is_some (option_and_then (range_within (length paths.arrivals)) o) ≡ true
      by None at done = absurd (cc)
      by (Some Begun) at done = absurd (cc)
      by (Some (Done from past)) at done =
          let so = exact.each q from past at in
          ap (λ (b : Bool). is_some {T = ℕ × ℕ} (cond b (Some (from, past)) None))
          (and_from (nat_le from past) (nat_le past (length paths.arrivals))
          (le-leb from past so.0) (le-leb past (length paths.arrivals) so.1))

  pub knows_same : (old new : Paths) → Grows old.nodes new.nodes → new.arrivals ≡ old.arrivals →
      new.known.entries ≡ old.known.entries → KnowsArrivals c ws old → KnowsArrivals c ws new
  knows_same old new grows same known knows = record {
    exact = exact_grown old new grows same
        (λ q from past at. sym (ap (λ (es : List (Place × Known)). known_of es q) known) ∙ at)
        knows.exact;
    ended = subst (λ (es : List (Place × Known)). IsSearch c ws es []) (sym known) knows.ended;
  }

  -- where nothing is known yet
  pub knows_nothing : (paths : Paths) → paths.known.entries ≡ [] → KnowsArrivals c ws paths
  knows_nothing paths none = record {
    exact = record {
      each = λ q from past at. absurd (unknown q (Done from past) at);
      ways = λ q from past at. absurd (unknown q (Done from past) at);
    };
    ended = record {
      chain = λ k f g at next. absurd (cc);
      passed = λ k f at. absurd (cc);
      ended = λ q begun few. absurd (unknown q Begun begun);
    };
  }
    where
      unknown : (q : Place) (k : Known) → known_of paths.known.entries q ≡ Some k → ⊥
      unknown q k at =
          let nothing : None ≡ Some k =
          sym (ap (λ (es : List (Place × Known)). known_of es q) none) ∙ at in
          absurd (cc)

  -- one place more
  module _ (old new : Paths) (place : Place) (found : List Reached) (exact : AreExact c ws old)
      (are : AreArrivals c ws place (gathered found)) (ways : AreWays c ws old.nodes place found)
      (set : (q : Place) → known_of new.known.entries q ≡ cond (same_place place q)
      (Some (Done (length old.arrivals) (length old.arrivals + length found)))
      (known_of old.known.entries q))
      (is : times new.arrivals ≡ times old.arrivals ++ gathered found)
      (grows : Grows old.nodes new.nodes) (extends : Extends old.arrivals new.arrivals)
      (stand : Stand new (length old.arrivals) found) where
    own_way : (from past k : ℕ) (a : Near) → length old.arrivals ≡ from →
        length old.arrivals + length found ≡ past → from ≤ k → k < past →
        slice_get new.arrivals k ≡ Some a → HasWay c ws new.nodes place a
    own_way from past k a first last low high here =
        let r = some_at found (k - length old.arrivals) (omega (arith, first, last, low, high)) in
        let stands : StandsAt new (length old.arrivals + (k - length old.arrivals)) r.0 =
        stand (k - length old.arrivals) r.0 r.1 in
        let where_is : length old.arrivals + (k - length old.arrivals) ≡ k =
        omega (arith, first, low) in
        let same : stands.arrival ≡ a = same_Some stands.arrival a
        (sym stands.is ∙ ap (λ (n : ℕ). slice_get new.arrivals n) where_is ∙ here) in
        subst (HasWay c ws new.nodes place) same (
          r.0.event,
          stands.event,
          subst (λ (t : ℤ × ℤ). IsWay c ws new.nodes r.0.event.count place t r.0.event)
              (sym stands.time)
              (subst (λ (nodes : List Node).
              IsWay c ws nodes r.0.event.count place (time_of r.0) r.0.event) (sym grows.is)
              (way_grown c ws old.nodes grows.more r.0.event.count place (time_of r.0) r.0.event
              (ways (k - length old.arrivals) r.0 r.1))),
        )

    pub exact_done : AreExact c ws new
    exact_done = record {
      each = each_done c ws old.known.entries new.known.entries old.arrivals new.arrivals place
          found exact.each are set is;
      ways = λ q from past at. by q from past (same_place place q) refl at;
    }
      where
        by : (q : Place) (from past : ℕ) (same : Bool) → same_place place q ≡ same →
            known_of new.known.entries q ≡ Some (Done from past) →
            HaveWays c ws new.nodes q new.arrivals from past
        by q from past true same at k a low high here =
            let ends = done_is (length old.arrivals) (length old.arrivals + length found) from past
            (sym (ap (λ (b : Bool). cond b
            (Some (Done (length old.arrivals) (length old.arrivals + length found)))
            (known_of old.known.entries q)) same) ∙ sym (set q) ∙ at) in
            subst (λ (p : Place). HasWay c ws new.nodes p a) (place_is place q same)
            (own_way from past k a ends.0 ends.1 low high here)
        by q from past false other at k a low high here =
            let before : known_of old.known.entries q ≡ Some (Done from past) =
            sym (ap (λ (b : Bool). cond b
            (Some (Done (length old.arrivals) (length old.arrivals + length found)))
            (known_of old.known.entries q)) other) ∙ sym (set q) ∙ at in
            let within = (exact.each q from past before).1 in
            let inside : k < length old.arrivals = omega (arith, within, high) in
            has_grown c ws old.nodes new.nodes q a grows
            (exact.ways q from past before k a low high
            (sym (get_before old.arrivals extends.more k inside)
            ∙ sym (ap (λ (all : List Near). slice_get all k) extends.is) ∙ here))
