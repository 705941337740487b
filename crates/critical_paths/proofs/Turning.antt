-- A chain that comes back to one of its events makes a round of nodes, and each of its events is
-- known.
use Rattle.std.proofs.Common.{◌≡◌, ℕ, zero, suc, ◌+◌, ◌-◌, ◌*◌, ◌<◌, ◌≤◌, Bool, true, false, cond, List, [], ◌∷◌, ◌++◌, length, slice_get, get_or, drop, refl, sym, ap, subst, ◌∙◌, arith, Some, nat_lt, lt-ltb, le-ltb, ◌⊎◌, inl, inr, ℤ, ◌+ℤ◌, append_assoc}
use Rattle.std.proofs.lemmas.Bool.{cases_lt, or_cases, or_left}
use Rattle.std.proofs.lemmas.Int.{ints}
use Rattle.std.proofs.lemmas.Option.{same_Some, slice_get_within, slice_get-get_or}
use Rattle.critical_paths.specs.declared.event.Stop.{Stop}
use Rattle.critical_paths.specs.declared.path.Passage.{Passage}
use Rattle.critical_paths.specs.declared.path.Origin.TheVariants.{Earlier}
use Rattle.critical_paths.specs.declared.path.Node.{Node}
use Rattle.critical_paths.specs.declared.path.End.TheVariants.{Loop as InLoop}
use Rattle.flat_circuit.specs.Circuit.{Circuit}
use Rattle.fixpoint_engine.specs.Waves.{Waves}
use Rattle.critical_paths.specs.Launch.{ticks_of}
use Rattle.critical_paths.specs.Walk.{origin_of, same_stop, stop_count}
use Rattle.critical_paths.specs.Known.{AreApart, AreNew, Has, IsBegun, IsKnown, IsNear, IsNumberOf, IsNumbered, IsRound, Knows, Leads, are_met, round_node, stop_after, stop_in, ticks_along}
use Rattle.critical_paths.proofs.Stops.{has_more, met_more, met_of, stop_turned}
use Rattle.critical_paths.proofs.Nodes.{get_end, get_more}
use Rattle.critical_paths.proofs.Memo.{known_more}
use Rattle.critical_paths.proofs.Settles.{after_all}
use Rattle.critical_paths.proofs.Walks.{push_long}
use Rattle.critical_paths.proofs.Rounds.{place_below, place_in, place_low, place_next, round_tells, sum_of}

abbrev Entry : Type 0
Entry = Stop × Passage

after_at : (chain : List Entry) (t : Stop) (k : ℕ) (e : Entry) → slice_get chain k ≡ Some e →
    stop_after chain t k ≡ e.0
after_at chain t k e at = ap (stop_in t) at

drop_at : (chain : List Entry) (k : ℕ) (e : Entry) → slice_get chain k ≡ Some e → drop k chain
    ≡ e ∷ drop (k + 1) chain
drop_at [] k e at = absurd (cc)
drop_at (x ∷ chain) zero e at = ap (λ (y : Entry). y ∷ chain) (same_Some x e at)
drop_at (x ∷ chain) (suc k) e at =
    let one : suc (k + 1) ≡ suc k + 1 = omega arith in
    drop_at chain k e at ∙ ap (λ (i : ℕ). e ∷ drop i (x ∷ chain)) one

drop_past : (chain : List Entry) (k : ℕ) → length chain ≤ k → drop k chain ≡ []
drop_past [] zero past = refl
drop_past [] (suc k) past = refl
drop_past (x ∷ chain) zero past = absurd (omega arith)
drop_past (x ∷ chain) (suc k) past = drop_past chain k (omega (arith, past))

module _ (c : Circuit) (ws : Waves) (chain : List Entry) (t : Stop) (p : Passage) (again base : ℕ)
    (ticks : ℤ)
    (leads : Leads c ws chain t) (apart : AreApart chain)
    (first : slice_get chain again ≡ Some (t, p)) where
  abbrev n : ℕ
  n = length chain - again

  abbrev entry : ℕ → Entry
  entry k = get_or chain (again + k) (t, p)

  abbrev at : ℕ → Node
  at k = round_node chain again base ticks (again + k) (entry k)

  there_is : (k : ℕ) → k < n → slice_get chain (again + k) ≡ Some (entry k)
  there_is k below = slice_get-get_or chain (again + k) (t, p) (omega (arith, below))

  entry_is : (k : ℕ) (e : Entry) → again ≤ k → slice_get chain k ≡ Some e → entry (k - again) ≡ e
  entry_is k e from is =
      let inside = slice_get_within chain k e is in
      let same : again + (k - again) ≡ k = omega (arith, from) in
      same_Some (entry (k - again)) e (sym (there_is (k - again) (omega (arith, from, inside)))
      ∙ ap (slice_get chain) same ∙ is)

  steps : (k : ℕ) → k + 1 < n + n → (q : Passage) × ((at (place_in n k)).passage ≡ Some q)
      × (origin_of c ws (at (place_in n k)).stop ≡ Earlier q (at (place_in n (k + 1))).stop)
  steps k below =
      let here = there_is (place_in n k) (place_below n k (omega (arith, below))) in
      let from = leads.each (again + place_in n k) (entry (place_in n k)) here in (
        (entry (place_in n k)).1,
        refl,
        from ∙ ap (Earlier (entry (place_in n k)).1)
            (to (place_next n k below)),
      )
    where
      to : ((place_in n k + 1 < n) × (place_in n (k + 1) ≡ place_in n k + 1)) ⊎
          ((place_in n k + 1 ≡ n) × (place_in n (k + 1) ≡ 0)) →
          stop_after chain t (again + place_in n k + 1) ≡ (entry (place_in n (k + 1))).0
      to (inl (less, next)) =
          let e : again + place_in n k + 1 ≡ again + (place_in n k + 1) = omega arith in
          ap (stop_after chain t) e ∙ after_at chain t (again + (place_in n k + 1))
          (entry (place_in n k + 1)) (there_is (place_in n k + 1) less)
          ∙ ap (λ i. (entry i).0) (sym next)
      to (inr (whole, next)) =
          let inside = slice_get_within chain again (t, p) first in
          let e : again + place_in n k + 1 ≡ length chain = omega (arith, whole, inside) in
          let zero_is : again + 0 ≡ again = omega arith in
          ap (stop_after chain t) e ∙ after_all chain t
          ∙ sym (ap (λ (x : Entry). x.0) (same_Some (entry 0) (t, p)
          (sym (there_is 0 (omega (arith, inside))) ∙ ap (slice_get chain) zero_is ∙ first)))
          ∙ ap (λ i. (entry i).0) (sym next)

  nexts : (k : ℕ) → k + 1 < n + n → (at (place_in n k)).next ≡ base + place_in n (k + 1)
  nexts k below = to (place_next n k below)
    where
      to : ((place_in n k + 1 < n) × (place_in n (k + 1) ≡ place_in n k + 1)) ⊎
          ((place_in n k + 1 ≡ n) × (place_in n (k + 1) ≡ 0)) →
          (at (place_in n k)).next ≡ base + place_in n (k + 1)
      to (inl (less, next)) =
          ap (λ b. cond b (base + (again + place_in n k + 1 - again)) base)
          (lt-ltb (again + place_in n k + 1) (length chain) (omega (arith, less)))
          ∙ omega (arith, next)
      to (inr (whole, next)) =
          ap (λ b. cond b (base + (again + place_in n k + 1 - again)) base)
          (le-ltb (again + place_in n k + 1) (length chain) (omega (arith, whole)))
          ∙ omega (arith, next)

  differ : (a b : ℕ) → a < n → b < n → (a ≡ b → ⊥) → same_stop (at a).stop (at b).stop ≡ false
  differ a b below under other = elim (cases_lt a b) [
    | inl less ↦ apart (again + a) (again + b) (entry a) (entry b) (omega (arith, less))
        (there_is a below) (there_is b under)
    | inr more ↦ stop_turned (entry a).0 (entry b).0
        ∙ apart (again + b) (again + a) (entry b) (entry a) (omega (arith, more, other))
        (there_is b under) (there_is a below)
  ]

  sums : (m k : ℕ) → k + m ≡ n → sum_of n at k m ≡ ticks_along (drop (again + k) chain)
  sums zero k whole = sym (ap ticks_along (drop_past chain (again + k) (omega (arith, whole))))
  sums (suc m) k whole =
      let low = place_low n k (omega (arith, whole)) in
      let rest = sums m (k + 1) (omega (arith, whole)) in
      let e : again + (k + 1) ≡ again + k + 1 = omega arith in
      ap (λ i. ticks_of (entry i).1 +ℤ sum_of n at (k + 1) m) low
      ∙ ap (λ z. ticks_of (entry k).1 +ℤ z) (rest ∙ ap (λ i. ticks_along (drop i chain)) e)
      ∙ sym (ap ticks_along (drop_at chain (again + k) (entry k)
      (there_is k (omega (arith, whole)))))

  pub round_known : (old new : List Node) (met numbered : List (Stop × ℕ)) → base ≡ length old →
      Knows c ws old met →
      IsRound old chain again (length chain) ticks new → IsNumbered met chain again base
      (length chain) numbered →
      ticks ≡ ticks_along (drop again chain) → IsNear (131072 * (n + 1)) ticks → n ≤ stop_count c →
      Knows c ws new numbered
  round_known old new met numbered base_is knows round numbers sum near few =
      record {
        each = λ s i has. elim (numbers.has s i has) [
          | inl before ↦ subst (λ (l : List Node). IsKnown c ws l (are_met numbered) s i)
              (sym round.grows.is)
              (known_more c ws old round.grows.more (are_met met) (are_met numbered) numbers.met s i
              (knows.each s i before))
          | inr of ↦ own s i of
        ];
      }
    where
      there : (k : ℕ) → k < n → slice_get new (base + k) ≡ Some (at k)
      there k below =
          let e : again + k - again ≡ k = omega arith in
          let is = round.each (again + k) (entry k) (omega arith) (omega (arith, below))
          (there_is k below) in
          ap (λ i. slice_get new (i + k)) base_is ∙ ap (λ i. slice_get new (length old + i)) (sym e)
          ∙ is
          ∙ ap (λ i. Some (round_node chain again i ticks (again + k) (entry k))) (sym base_is)

      among : (k : ℕ) → k < n → are_met numbered (at k).stop ≡ true
      among k below =
          met_of numbered (entry k).0 (base + (again + k - again))
          (numbers.here (again + k) (entry k) (omega arith) (omega (arith, below))
          (there_is k below))

      own : (s : Stop) (i : ℕ) → IsNumberOf chain again base (length chain) s i →
          IsKnown c ws new (are_met numbered) s i
      own s i (k, (e, from, less, is, same, number)) =
          let entry_same : entry (k - again) ≡ e = entry_is k e from is in
          let below : k - again < n = omega (arith, from, less) in
          let low = place_low n (k - again) below in
          subst (λ (j : ℕ). IsKnown c ws new (are_met numbered) s j) (sym number)
          (subst (λ (u : Stop). IsKnown c ws new (are_met numbered) u (base + (k - again)))
          (ap (λ (x : Entry). x.0) entry_same ∙ same) record {
            node = at (k - again);
            is = there (k - again) below;
            tells = round_tells n at c ws steps differ new base (are_met numbered) there nexts among
                few (k - again) below refl refl refl
                (sum ∙ sym (sums n 0 (omega arith) ∙ ap (λ j. ticks_along (drop j chain))
                (omega arith))) near;
          })

  -- the walk goes on back along the chain before the round
  pub begin_round : (old new : List Node) (met numbered : List (Stop × ℕ)) → base ≡ length old →
      Knows c ws old met →
      IsRound old chain again (length chain) ticks new → IsNumbered met chain again base
      (length chain) numbered →
      ticks ≡ ticks_along (drop again chain) → IsNear (131072 * n) ticks → n ≤ stop_count c →
      AreNew met chain (length chain) → IsBegun c ws new numbered chain t (base, again)
  begin_round old new met numbered base_is knows round numbers sum near few fresh =
      let inside = slice_get_within chain again (t, p) first in
      let low = near.low in
      let high = near.high in
      record {
        knows = round_known old new met numbered base_is knows round numbers sum
            record { low = omega (arith, ints, low); high = omega (arith, ints, high) } few;
        has = subst (λ (s : Stop). Has numbered s base) (sym (after_at chain t again (t, p) first))
            (subst (λ (i : ℕ). Has numbered t i) (base_at again)
            (numbers.here again (t, p) (omega arith) inside first));
        within = omega (arith, inside);
        new = λ k e less at. unmet k e less at (are_met numbered e.0) refl;
      }
    where
      base_at : (a : ℕ) → base + (a - a) ≡ base
      base_at a = omega arith

      unmet : (k : ℕ) (e : Entry) → k < again → slice_get chain k ≡ Some e → (b : Bool) →
          are_met numbered e.0 ≡ b → are_met numbered e.0 ≡ false
      unmet k e less at false is = is
      unmet k e less at true is = elim (numbers.only e.0 is) [
        | inl old ↦ absurd (cc (old, fresh k e (slice_get_within chain k e at) at))
        | inr among ↦ absurd (cc (
          among.1.4,
          apart k among.0 e among.1.0
              (omega (arith, less, among.1.1)) at among.1.3,
        ))
      ]

-- ---- numbers, one after the other

has_old : (now : List (Stop × ℕ)) (e : Stop × ℕ) (s : Stop) (i : ℕ) → Has now s i →
    Has (now ++ e ∷ []) s i
has_old now e s i (k, at) = (k, get_more now (e ∷ []) k (s, i) at)

pub unnumbered : (old : List (Stop × ℕ)) (chain : List Entry) (first base place : ℕ)
    (now : List (Stop × ℕ)) (e : Entry) →
    IsNumbered old chain first base place now → AreNew old chain (length chain) → AreApart chain →
    slice_get chain place ≡ Some e →
    are_met now e.0 ≡ false
unnumbered old chain first base place now e numbers new apart at = by (are_met now e.0) refl
  where
    by : (b : Bool) → are_met now e.0 ≡ b → are_met now e.0 ≡ false
    by false is = is
    by true is = elim (numbers.only e.0 is) [
      | inl was ↦ absurd (cc (was, new place e (slice_get_within chain place e at) at))
      | inr among ↦ absurd (cc (
        among.1.4,
        stop_turned e.0 among.1.0.0,
        apart among.0 place
            among.1.0 e among.1.2 among.1.3 at,
      ))
    ]

pub numbered_more : (old : List (Stop × ℕ)) (chain : List Entry) (first base place : ℕ)
    (now : List (Stop × ℕ)) (e : Entry) →
    IsNumbered old chain first base place now → first ≤ place → slice_get chain place ≡ Some e →
    IsNumbered old chain first base (place + 1) (now ++ (e.0, base + (place - first)) ∷ [])
numbered_more old chain first base place now e numbers from at =
    let own : Stop × ℕ = (e.0, base + (place - first)) in
    record {
      met = λ q h. met_more now own q ∙ or_left (are_met now q) (same_stop q e.0) (numbers.met q h);
      here = λ k f lower less is. elim (cases_lt k place) [
        | inl below ↦ has_old now own f.0 (base + (k - first)) (numbers.here k f lower below is)
        | inr above ↦ at_place k f (omega (arith, less, above)) is
      ];
      only = λ q h. elim (or_cases (are_met now q) (same_stop q e.0) (sym (met_more now own q) ∙ h)) [
        | inl was ↦ elim (numbers.only q was) [
          | inl before ↦ inl before
          | inr among ↦ let less = among.1.2 in inr (
            among.0,
            (among.1.0, among.1.1, omega (arith, less), among.1.3, among.1.4),
          )
        ]
        | inr here ↦ inr (place, (e, from, omega arith, at, here))
      ];
      has = λ s i has. elim (has_more now own s i has) [
        | inl was ↦ elim (numbers.has s i was) [
          | inl before ↦ inl before
          | inr of ↦ let less = of.1.2 in inr (
            of.0,
            (
              of.1.0,
              of.1.1,
              omega (arith, less),
              of.1.3,
              of.1.4,
              of.1.5,
            ),
          )
        ]
        | inr here ↦ inr (
          place,
          (
            e,
            from,
            omega arith,
            at,
            ap (λ (x : Stop × ℕ). x.0) here,
            sym
                (ap (λ (x : Stop × ℕ). x.1) here),
          ),
        )
      ];
    }
  where
    at_place : (k : ℕ) (f : Entry) → k ≡ place → slice_get chain k ≡ Some f →
        Has (now ++ (e.0, base + (place - first)) ∷ []) f.0 (base + (k - first))
    at_place k f same is =
        let one : e ≡ f = same_Some e f (sym at ∙ ap (slice_get chain) (sym same) ∙ is) in
        subst (λ (i : ℕ). Has (now ++ (e.0, base + (place - first)) ∷ []) f.0 (base + (i - first)))
        (sym same)
        (subst (λ (x : Entry). Has (now ++ (e.0, base + (place - first)) ∷ []) x.0
        (base + (place - first))) one
        (length now, get_end now (e.0, base + (place - first))))

pub numbered_all : (old : List (Stop × ℕ)) (chain : List Entry) (first base place : ℕ)
    (now : List (Stop × ℕ)) →
    IsNumbered old chain first base place now → length chain ≤ place →
    IsNumbered old chain first base (length chain) now
numbered_all old chain first base place now numbers past =
    record {
      met = numbers.met;
      here = λ k f lower less is. numbers.here k f lower (omega (arith, less, past)) is;
      only = λ q h. elim (numbers.only q h) [
        | inl before ↦ inl before
        | inr among ↦ inr (
          among.0,
          (
            among.1.0,
            among.1.1,
            slice_get_within chain among.0 among.1.0
                among.1.3,
            among.1.3,
            among.1.4,
          ),
        )
      ];
      has = λ s i has. elim (numbers.has s i has) [
        | inl before ↦ inl before
        | inr of ↦ inr (
          of.0,
          (
            of.1.0,
            of.1.1,
            slice_get_within chain of.0 of.1.0 of.1.3,
            of.1.3,
            of.1.4,
            of.1.5,
          ),
        )
      ];
    }

-- ---- ticks, one after the other

pub ticks_more : (chain : List Entry) (first place : ℕ) (ticks more sum : ℤ) (e : Entry) →
    slice_get chain place ≡ Some e →
    more ≡ ticks_of e.1 → ticks +ℤ ticks_along (drop place chain) ≡ sum →
    (ticks +ℤ more) +ℤ ticks_along (drop (place + 1) chain) ≡ sum
ticks_more chain first place ticks more sum e at is so_far =
    let next : ticks_along (drop place chain) ≡ ticks_of e.1 +ℤ ticks_along (drop (place + 1) chain)
    = ap ticks_along (drop_at chain place e at) in
    omega (arith, ints, is, so_far, next)

pub near_more : (first place : ℕ) (ticks more : ℤ) → first ≤ place → IsNear 131072 more →
    IsNear (131072 * (place - first)) ticks →
    IsNear (131072 * (place + 1 - first)) (ticks +ℤ more)
near_more first place ticks more from near so_far =
    let low = near.low in
    let high = near.high in
    let below = so_far.low in
    let above = so_far.high in
    let one : place + 1 - first ≡ (place - first) + 1 = omega (arith, from) in
    record {
      low = omega (arith, ints, low, below, one);
      high = omega
          (arith, ints, high, above, one);
    }

-- ---- nodes, one after the other

pub round_more : (old : List Node) (chain : List Entry) (first place : ℕ) (ticks : ℤ)
    (now : List Node) (e : Entry) →
    IsRound old chain first place ticks now → first ≤ place → slice_get chain place ≡ Some e →
    IsRound old chain first (place + 1) ticks (now ++ round_node chain first (length old) ticks
    place e ∷ [])
round_more old chain first place ticks now e round from at =
    let long = round.long in
    let own : Node = round_node chain first (length old) ticks place e in
    record {
      long = push_long now own ∙ omega (arith, long, from);
      grows = record {
        more = round.grows.more ++ own ∷ [];
        is = ap (λ (l : List Node). l ++ own ∷ []) round.grows.is
            ∙ append_assoc old round.grows.more (own ∷ []);
      };
      each = λ k f lower less is. elim (cases_lt k place) [
        | inl below ↦ get_more now (own ∷ []) (length old + (k - first))
            (round_node chain first (length old) ticks k f) (round.each k f lower below is)
        | inr above ↦ at_place k f (omega (arith, less, above)) is
      ];
    }
  where
    at_place : (k : ℕ) (f : Entry) → k ≡ place → slice_get chain k ≡ Some f →
        slice_get (now ++ round_node chain first (length old) ticks place e ∷ [])
        (length old + (k - first))
        ≡ Some (round_node chain first (length old) ticks k f)
    at_place k f same is =
        let long = round.long in
        let one : e ≡ f = same_Some e f (sym at ∙ ap (slice_get chain) (sym same) ∙ is) in
        let own : Node = round_node chain first (length old) ticks place e in
        let there : length old + (k - first) ≡ length now = omega (arith, long, same) in
        ap (slice_get (now ++ own ∷ [])) there ∙ get_end now own
        ∙ ap (λ (x : Entry). Some (round_node chain first (length old) ticks place x)) one
        ∙ ap (λ (i : ℕ). Some (round_node chain first (length old) ticks i f)) (sym same)

pub round_more_at : (old : List Node) (chain : List Entry) (first place : ℕ) (ticks : ℤ)
    (now : List Node) (e : Entry) →
    IsRound old chain first place ticks now → first ≤ place → slice_get chain place ≡ Some e →
    (base past next : ℕ) →
    base ≡ length old → past ≡ length chain → next ≡ cond (nat_lt (place + 1) past)
    (base + (place + 1 - first)) base →
    (new : List Node) → new ≡ now ++ record {
      stop = e.0;
      passage = Some e.1;
      next = next;
      count = past - first + 1;
      end = InLoop;
      source = e.0.net;
      age = ticks;
    } ∷ [] → IsRound old chain first (place + 1) ticks new
round_more_at old chain first place ticks now e round from at base past next base_is past_is next_is
    new new_is =
    let own : Node = round_node chain first (length old) ticks place e in
    let same : next ≡ own.next =
    next_is ∙ ap (λ (i : ℕ). cond (nat_lt (place + 1) i) (base + (place + 1 - first)) base) past_is
    ∙ ap (λ (j : ℕ). cond (nat_lt (place + 1) (length chain)) (j + (place + 1 - first)) j) base_is
    in
    let is : new ≡ now ++ own ∷ [] =
    new_is ∙ ap (λ (j : ℕ). now ++ made j past ∷ []) same ∙ ap
    (λ (i : ℕ). now ++ made own.next i ∷ []) past_is in
    subst (λ (l : List Node). IsRound old chain first (place + 1) ticks l) (sym is)
    (round_more old chain first place ticks now e round from at)
  where
    made : ℕ → ℕ → Node
    made j i =
        record {
          stop = e.0;
          passage = Some e.1;
          next = j;
          count = i - first + 1;
          end = InLoop;
          source = e.0.net;
          age = ticks;
        }
