-- What is gathered at a place is what the definitions make of its ways.
use Rattle.std.proofs.Common.{◌≡◌, ℕ, zero, suc, ◌+◌, ◌-◌, ◌/◌, ◌%◌, ◌<◌, ◌≤◌, not, ◌==◌, Bool, true, false, ◌&&◌, cond, List, [], ◌∷◌, ◌++◌, map, filter, fold, slice_set, refl, sym, ap, ◌∙◌, arith, eqb-true, eq-eqb, ℤ, pos, Option, Some, None}
use Rattle.std.specs.List.{All, AllByRecursion, range_with_len}
use Rattle.std.specs.Ordering.{int_eq}
use Rattle.std.specs.Prelude.{unwrap_or}
use Rattle.std.proofs.Math.Nat.{mod-add-div'}
use Rattle.std.proofs.lemmas.Bool.{and_parts}
use Rattle.std.proofs.lemmas.List.{map-append}
use Rattle.std.proofs.lemmas.List.Elements.{All-from_recursion, filter-append}
use Rattle.std.proofs.lemmas.Int.{ints}
use Rattle.scald_base.specs.Clock.{back}
use Rattle.scald_base.specs.Time.{period}
use Rattle.scald_base.proofs.Back.{back_zero}
use Rattle.step_values.specs.Cell.{values}
use Rattle.skew_algebra.specs.Wave.{fold as wave_fold}
use Rattle.flat_circuit.specs.Circuit.{Circuit}
use Rattle.fixpoint_engine.specs.Waves.{Waves}
use Rattle.critical_paths.specs.declared.arrival.Place.{Place}
use Rattle.critical_paths.specs.declared.direction.Corner.{Corner}
use Rattle.critical_paths.specs.declared.direction.Corner.TheVariants.{Late, Early}
use Rattle.critical_paths.specs.declared.gather.Reached.{Reached}
use Rattle.critical_paths.specs.declared.path.Passage.{Passage}
use Rattle.critical_paths.specs.Launch.{ticks_of}
use Rattle.critical_paths.specs.Event.{Events, events, is_first, is_last}
use Rattle.critical_paths.specs.Path.{is_event}
use Rattle.critical_paths.specs.Region.{IsCyclic, first_from, region_from, regions, regions_from}
use Rattle.critical_paths.specs.Views.{end_at, ticks_of_region}
use Rattle.critical_paths.specs.Tick.{is_further, slot_of}
use Rattle.critical_paths.specs.Arrival.{Arrival, is_further as is_further_arrival, later_by, with_further}
use Rattle.critical_paths.specs.Reached.{IsEdgeRegion, IsFirstOf, IsOfNone, comes, gathered, later, of_clock, time_of, with_all, with_one, with_time}
use Rattle.critical_paths.proofs.Runs.{region_from_each, region_from_ordered, repeats}
use Rattle.critical_paths.proofs.Searches.{first_is}
use Rattle.critical_paths.proofs.Ticks.{slot_pos}

-- ---- regions

module _ (c : Circuit) (ws : Waves) (q : Place) (short : period c.header ≤ 4096)
    (long : 2 ≤ period c.header)
    (cyclic : IsCyclic (period c.header) (events q.direction (wave_fold values (ws q.net)))) where
  abbrev p : ℕ
  p = period c.header

  abbrev ev : Events
  ev = events q.direction (wave_fold values (ws q.net))

  last_near : (t : ℕ) → t < p → (o : Option ℕ) → first_from (is_last ev) p t ≡ o →
      unwrap_or o t ≤ 65536
  last_near t less None is = omega (arith, less, short)
  last_near t less (Some l) is =
      let below = (first_is (is_last ev) p t l is).below in omega (arith, below, less, short)

  in_slot : (t : ℕ) → ev t ≡ true → ev (slot_of p (pos t)) ≡ true
  in_slot t here =
      ap ev (slot_pos p t (omega (arith, long)) ∙ back_zero p t)
      ∙ sym (repeats p ev cyclic long (t / p) (t % p)) ∙ ap ev (mod-add-div' t p) ∙ here

  -- both ends are events
  end_event : (corner : Corner) (t : ℕ) → ev t ≡ true →
      ev (slot_of p (end_at corner (ticks_of_region (region_from p ev t)))) ≡ true
  end_event Late t here =
      in_slot (region_from p ev t).last
      (region_from_each p ev cyclic long t here (region_from p ev t).last
      (region_from_ordered p ev cyclic long t) (omega arith))
  end_event Early t here = in_slot t here

  edge_region : (t : ℕ) → t < p → ev t ≡ true →
      IsEdgeRegion c ws q (ticks_of_region (region_from p ev t))
  edge_region t less here =
      let last = last_near t less (first_from (is_last ev) p t) refl in
      record {
        first = record { low = omega (arith, ints); high = omega (arith, ints, less, short) };
        last = record { low = omega (arith, ints); high = omega (arith, ints, last) };
        event = end_event q.corner t here;
      }

  edges_from : (n t : ℕ) → t + n ≤ p →
      AllByRecursion (IsEdgeRegion c ws q) (map ticks_of_region (regions_from p ev n t))
  edges_from zero t within = tt
  edges_from (suc n) t within =
      by (is_first p ev t) refl (edges_from n (t + 1) (omega (arith, within)))
    where
      by : (b : Bool) → is_first p ev t ≡ b →
          AllByRecursion (IsEdgeRegion c ws q) (map ticks_of_region (regions_from p ev n (t + 1))) →
          AllByRecursion (IsEdgeRegion c ws q) (map ticks_of_region (map (region_from p ev)
          (cond b (t ∷ filter (is_first p ev) (range_with_len (t + 1) n))
          (filter (is_first p ev) (range_with_len (t + 1) n)))))
      by true is rest = (
        edge_region t (omega (arith, within)) (and_parts (ev t) (not (ev (t + (p - 1)))) is).0,
        rest,
      )
      by false is rest = rest

  pub edge_regions : All (IsEdgeRegion c ws q) (map ticks_of_region (regions p ev))
  edge_regions = All-from_recursion (IsEdgeRegion c ws q) (map ticks_of_region (regions p ev))
      (edges_from p 0 (omega arith))

-- ---- one more, among those of the program

-- an edge that is new goes last
pub with_none : (corner : Corner) (some : List Reached) (a : Reached) →
    IsOfNone a.near.ideal some → gathered (some ++ a ∷ []) ≡ with_time corner (gathered some) (time_of a)
with_none corner [] a none = refl
with_none corner (x ∷ xs) a none =
    ap (λ (l : List (ℤ × ℤ)). time_of x ∷ l) (with_none corner xs a (λ k b at. none (suc k) b at))
    ∙ sym (ap (λ (b : Bool). cond b (cond (is_further corner a.near.tick x.near.tick) (time_of a) (time_of x) ∷ gathered xs)
    (time_of x ∷ with_time corner (gathered xs) (time_of a))) (none 0 x refl))

set_time : (b : Bool) (x a : Reached) (xs : List Reached) →
    gathered (cond b (a ∷ xs) (x ∷ xs)) ≡ cond b (time_of a) (time_of x) ∷ gathered xs
set_time true x a xs = refl
set_time false x a xs = refl

behind_one : (b : Bool) (x : Reached) (xs ys : List Reached) →
    gathered (cond b (x ∷ xs) (x ∷ ys)) ≡ time_of x ∷ gathered (cond b xs ys)
behind_one true x xs ys = refl
behind_one false x xs ys = refl

-- one that is there keeps its place
pub with_first : (corner : Corner) (some : List Reached) (at : ℕ) (own a : Reached) →
    IsFirstOf a.near.ideal some at own →
    gathered (cond (is_further corner a.near.tick own.near.tick) (slice_set some at a) some)
    ≡ with_time corner (gathered some) (time_of a)
with_first corner [] at own a first = let is = first.is in absurd (cc)
with_first corner (x ∷ xs) zero own a first =
    let same : x ≡ own = let is = first.is in cc in
    ap (λ (y : Reached). gathered (cond (is_further corner a.near.tick y.near.tick) (a ∷ xs) (x ∷ xs))) (sym same)
    ∙ set_time (is_further corner a.near.tick x.near.tick) x a xs
    ∙ sym (ap (λ (b : Bool). cond b (cond (is_further corner a.near.tick x.near.tick) (time_of a) (time_of x) ∷ gathered xs)
    (time_of x ∷ with_time corner (gathered xs) (time_of a)))
    (ap (λ (y : Reached). int_eq y.near.ideal a.near.ideal) same ∙ first.edge))
with_first corner (x ∷ xs) (suc at) own a first =
    behind_one (is_further corner a.near.tick own.near.tick) x (slice_set xs at a) xs
    ∙ ap (λ (l : List (ℤ × ℤ)). time_of x ∷ l) (with_first corner xs at own a (record {
      is = first.is;
      edge = first.edge;
      before = λ k b below is. first.before (suc k) b (omega (arith, below)) is;
    }))
    ∙ sym (ap (λ (b : Bool). cond b (cond (is_further corner a.near.tick x.near.tick) (time_of a) (time_of x) ∷ gathered xs)
    (time_of x ∷ with_time corner (gathered xs) (time_of a))) (first.before 0 x (omega arith) refl))

-- ---- those of one clock

further_is : (corner : Corner) (a x : Arrival) → is_further corner (pos a.tick) (pos x.tick)
    ≡ is_further_arrival corner a x
further_is Late a x = refl
further_is Early a x = refl

module _ (clock : ℕ) where
  abbrev pub noted : Arrival → ℤ × ℤ
  noted a = (a.edge, pos a.tick)

  abbrev pub own : Arrival → Bool
  own a = a.source == clock

  pub one_of : (a : Arrival) (xs : List Arrival) → of_clock clock (a ∷ xs)
      ≡ cond (own a) (noted a ∷ of_clock clock xs) (of_clock clock xs)
  one_of a xs = by (own a)
    where
      by : (b : Bool) → map noted (cond b (a ∷ filter own xs) (filter own xs))
          ≡ cond b (noted a ∷ map noted (filter own xs)) (map noted (filter own xs))
      by true = refl
      by false = refl

  pub clock_append : (xs ys : List Arrival) → of_clock clock (xs ++ ys)
      ≡ of_clock clock xs ++ of_clock clock ys
  clock_append xs ys = ap (map noted) (filter-append own xs ys)
      ∙ map-append noted (filter own xs) (filter own ys)

  pub clock_later : (ticks : ℕ) (passage : Passage) (xs : List Arrival) → ticks_of passage ≡ pos ticks →
      of_clock clock (map (later_by ticks) xs) ≡ map (later passage) (of_clock clock xs)
  clock_later ticks passage [] is = refl
  clock_later ticks passage (a ∷ xs) is =
      one_of (later_by ticks a) (map (later_by ticks) xs)
      ∙ by (own a) (clock_later ticks passage xs is)
      ∙ ap (map (later passage)) (sym (one_of a xs))
    where
      sum : ◌≡◌ {A = ℤ × ℤ} (a.edge, pos (a.tick + ticks)) (later passage (noted a))
      sum = ap (λ (t : ℤ). (a.edge, t))
          (let e = is in omega (arith, ints, e))

      by : (b : Bool) → of_clock clock (map (later_by ticks) xs) ≡ map (later passage) (of_clock clock xs) →
          cond b (noted (later_by ticks a) ∷ of_clock clock (map (later_by ticks) xs)) (of_clock clock (map (later_by ticks) xs))
          ≡ map (later passage) (cond b (noted a ∷ of_clock clock xs) (of_clock clock xs))
      by true rest = λ i. sum i ∷ rest i
      by false rest = rest

  module _ (corner : Corner) where
    -- an edge that has no place yet
    keep : (e bx ba : Bool) (x a : Arrival) (os : List (ℤ × ℤ)) → int_eq x.edge a.edge ≡ e →
        (bx ≡ true → ba ≡ true → e ≡ false) →
        cond bx (noted x ∷ cond ba (with_time corner os (noted a)) os) (cond ba (with_time corner os (noted a)) os)
        ≡ cond ba (with_time corner (cond bx (noted x ∷ os) os) (noted a)) (cond bx (noted x ∷ os) os)
    keep e true true x a os is other =
        sym (ap (λ (b : Bool). cond b (cond (is_further corner (pos a.tick) (pos x.tick)) (noted a) (noted x) ∷ os)
        (noted x ∷ with_time corner os (noted a))) (is ∙ other refl refl))
    keep e true false x a os is other = refl
    keep e false true x a os is other = refl
    keep e false false x a os is other = refl

    -- one that has
    put : (f ba : Bool) (x a : Arrival) (xs : List Arrival) → own a ≡ ba → own x ≡ ba → int_eq x.edge a.edge ≡ true →
        is_further_arrival corner a x ≡ f →
        of_clock clock (cond f a x ∷ xs)
        ≡ cond ba (with_time corner (cond ba (noted x ∷ of_clock clock xs) (of_clock clock xs)) (noted a))
        (cond ba (noted x ∷ of_clock clock xs) (of_clock clock xs))
    put f false x a xs is_a is_x e is = one_of (cond f a x) xs
        ∙ ap (λ (b : Bool). cond b (noted (cond f a x) ∷ of_clock clock xs) (of_clock clock xs)) (by f)
      where
        by : (f : Bool) → own (cond f a x) ≡ false
        by true = is_a
        by false = is_x
    put f true x a xs is_a is_x e is = one_of (cond f a x) xs
        ∙ ap (λ (b : Bool). cond b (noted (cond f a x) ∷ of_clock clock xs) (of_clock clock xs)) (by f)
        ∙ ap (λ (t : ℤ × ℤ). t ∷ of_clock clock xs) (parts f)
        ∙ ap (λ (b : Bool). cond b (noted a) (noted x) ∷ of_clock clock xs) (sym (further_is corner a x ∙ is))
        ∙ sym (ap (λ (b : Bool). cond b (cond (is_further corner (pos a.tick) (pos x.tick)) (noted a) (noted x) ∷ of_clock clock xs)
        (noted x ∷ with_time corner (of_clock clock xs) (noted a))) e)
      where
        by : (f : Bool) → own (cond f a x) ≡ true
        by true = is_a
        by false = is_x

        parts : (f : Bool) → noted (cond f a x) ≡ cond f (noted a) (noted x)
        parts true = refl
        parts false = refl

    abbrev after : List Arrival → Arrival → List (ℤ × ℤ)
    after xs a = cond (own a) (with_time corner (of_clock clock xs) (noted a)) (of_clock clock xs)

    pub clock_further : (xs : List Arrival) (a : Arrival) →
        of_clock clock (with_further corner xs a) ≡ after xs a
    clock_further [] a = one_of a []
    clock_further (x ∷ xs) a =
        by (x.source == a.source) (int_eq x.edge a.edge) refl refl (clock_further xs a)
      where
        apart : (s : Bool) → (x.source == a.source) ≡ s → s ≡ false → own x ≡ true → own a ≡ true → ⊥
        apart s is none of_x of_a =
            let one : x.source ≡ clock = eqb-true x.source clock of_x in
            let two : a.source ≡ clock = eqb-true a.source clock of_a in
            let same : (x.source == a.source) ≡ true = eq-eqb x.source a.source (one ∙ sym two) in
            absurd (cc (is, none, same))

        rest : (e : Bool) → int_eq x.edge a.edge ≡ e → (own x ≡ true → own a ≡ true → e ≡ false) →
            of_clock clock (with_further corner xs a) ≡ after xs a →
            of_clock clock (x ∷ with_further corner xs a)
            ≡ cond (own a) (with_time corner (cond (own x) (noted x ∷ of_clock clock xs) (of_clock clock xs)) (noted a))
            (cond (own x) (noted x ∷ of_clock clock xs) (of_clock clock xs))
        rest e is other more = one_of x (with_further corner xs a)
            ∙ ap (λ (l : List (ℤ × ℤ)). cond (own x) (noted x ∷ l) l) more
            ∙ keep e (own x) (own a) x a (of_clock clock xs) is other

        by : (s e : Bool) → (x.source == a.source) ≡ s → int_eq x.edge a.edge ≡ e →
            of_clock clock (with_further corner xs a) ≡ after xs a →
            of_clock clock (cond ((x.source == a.source) && int_eq x.edge a.edge)
            (cond (is_further_arrival corner a x) a x ∷ xs) (x ∷ with_further corner xs a))
            ≡ after (x ∷ xs) a
        by true true s e more =
            let same : x.source ≡ a.source = eqb-true x.source a.source s in
            ap (λ (b : Bool). of_clock clock (cond b (cond (is_further_arrival corner a x) a x ∷ xs) (x ∷ with_further corner xs a)))
            (λ i. s i && e i)
            ∙ put (is_further_arrival corner a x) (own a) x a xs refl (ap (λ (n : ℕ). n == clock) same) e refl
            ∙ ap (λ (b : Bool). cond (own a) (with_time corner (cond b (noted x ∷ of_clock clock xs) (of_clock clock xs)) (noted a))
            (cond b (noted x ∷ of_clock clock xs) (of_clock clock xs))) (sym (ap (λ (n : ℕ). n == clock) same))
            ∙ ap (λ (l : List (ℤ × ℤ)). cond (own a) (with_time corner l (noted a)) l) (sym (one_of x xs))
        by true false s e more =
            ap (λ (b : Bool). of_clock clock (cond b (cond (is_further_arrival corner a x) a x ∷ xs) (x ∷ with_further corner xs a)))
            (λ i. s i && e i)
            ∙ rest false e (λ of_x of_a. refl) more
            ∙ ap (λ (l : List (ℤ × ℤ)). cond (own a) (with_time corner l (noted a)) l) (sym (one_of x xs))
        by false e s is more =
            ap (λ (b : Bool). of_clock clock (cond b (cond (is_further_arrival corner a x) a x ∷ xs) (x ∷ with_further corner xs a)))
            (λ i. s i && is i)
            ∙ rest e is (λ of_x of_a. absurd (apart false s refl of_x of_a)) more
            ∙ ap (λ (l : List (ℤ × ℤ)). cond (own a) (with_time corner l (noted a)) l) (sym (one_of x xs))

-- ---- all that come, of each edge the furthest

module _ (c : Circuit) (ws : Waves) (place : Place) (some : 0 < period c.header) where
  abbrev comes_at : Arrival → Bool
  comes_at a = is_event c ws (record {
    net = place.net;
    direction = place.direction;
    slot = back (period c.header) a.tick 0;
  })

  comes_is : (a : Arrival) → comes c ws place (a.edge, pos a.tick) ≡ comes_at a
  comes_is a = ap (λ (s : ℕ). is_event c ws (record { net = place.net; direction = place.direction; slot = s }))
      (slot_pos (period c.header) a.tick some)

  pub clock_furthest : (known found : List Arrival) →
      of_clock place.clock (fold (with_further place.corner) known (filter comes_at found))
      ≡ with_all c ws place (of_clock place.clock known) (of_clock place.clock found)
  clock_furthest known [] = refl
  clock_furthest known (a ∷ more) =
      by (comes_at a) (own place.clock a) refl refl (clock_furthest known more) (clock_furthest (with_further place.corner known a) more)
      ∙ ap (with_all c ws place (of_clock place.clock known)) (sym (one_of place.clock a more))
    where
      one : (b : Bool) → comes_at a ≡ b → with_one c ws place (of_clock place.clock known) (noted place.clock a)
          ≡ cond b (with_time place.corner (of_clock place.clock known) (noted place.clock a)) (of_clock place.clock known)
      one b is = ap (λ (x : Bool). cond x (with_time place.corner (of_clock place.clock known) (noted place.clock a)) (of_clock place.clock known)) (comes_is a ∙ is)

      -- it is of the clock, or not
      step : (of : Bool) → own place.clock a ≡ of → of_clock place.clock (with_further place.corner known a)
          ≡ cond of (with_time place.corner (of_clock place.clock known) (noted place.clock a)) (of_clock place.clock known)
      step of is = clock_further place.clock place.corner known a
          ∙ ap (λ (x : Bool). cond x (with_time place.corner (of_clock place.clock known) (noted place.clock a)) (of_clock place.clock known)) is

      by : (b of : Bool) → comes_at a ≡ b → own place.clock a ≡ of →
          of_clock place.clock (fold (with_further place.corner) known (filter comes_at more))
          ≡ with_all c ws place (of_clock place.clock known) (of_clock place.clock more) →
          of_clock place.clock (fold (with_further place.corner) (with_further place.corner known a) (filter comes_at more))
          ≡ with_all c ws place (of_clock place.clock (with_further place.corner known a)) (of_clock place.clock more) →
          of_clock place.clock (fold (with_further place.corner) known (cond (comes_at a) (a ∷ filter comes_at more) (filter comes_at more)))
          ≡ with_all c ws place (of_clock place.clock known) (cond (own place.clock a) (noted place.clock a ∷ of_clock place.clock more) (of_clock place.clock more))
      by true true is of without with =
          ap (λ (x : Bool). of_clock place.clock (fold (with_further place.corner) known (cond x (a ∷ filter comes_at more) (filter comes_at more)))) is
          ∙ with ∙ ap (λ (l : List (ℤ × ℤ)). with_all c ws place l (of_clock place.clock more)) (step true of ∙ sym (one true is))
          ∙ sym (ap (λ (x : Bool). with_all c ws place (of_clock place.clock known) (cond x (noted place.clock a ∷ of_clock place.clock more) (of_clock place.clock more))) of)
      by true false is of without with =
          ap (λ (x : Bool). of_clock place.clock (fold (with_further place.corner) known (cond x (a ∷ filter comes_at more) (filter comes_at more)))) is
          ∙ with ∙ ap (λ (l : List (ℤ × ℤ)). with_all c ws place l (of_clock place.clock more)) (step false of)
          ∙ sym (ap (λ (x : Bool). with_all c ws place (of_clock place.clock known) (cond x (noted place.clock a ∷ of_clock place.clock more) (of_clock place.clock more))) of)
      by false true is of without with =
          ap (λ (x : Bool). of_clock place.clock (fold (with_further place.corner) known (cond x (a ∷ filter comes_at more) (filter comes_at more)))) is
          ∙ without ∙ ap (λ (l : List (ℤ × ℤ)). with_all c ws place l (of_clock place.clock more)) (sym (one false is))
          ∙ sym (ap (λ (x : Bool). with_all c ws place (of_clock place.clock known) (cond x (noted place.clock a ∷ of_clock place.clock more) (of_clock place.clock more))) of)
      by false false is of without with =
          ap (λ (x : Bool). of_clock place.clock (fold (with_further place.corner) known (cond x (a ∷ filter comes_at more) (filter comes_at more)))) is
          ∙ without
          ∙ sym (ap (λ (x : Bool). with_all c ws place (of_clock place.clock known) (cond x (noted place.clock a ∷ of_clock place.clock more) (of_clock place.clock more))) of)
