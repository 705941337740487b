-- The ways by which edges come to places, one event after the other.
use Rattle.std.proofs.Common.{◌≡◌, ℕ, zero, suc, ◌+◌, ◌*◌, ◌-◌, ◌^◌, ◌≤◌, Bool, true, false, cond, List, [], ◌∷◌, ◌++◌, length, refl, sym, ap, subst, ◌∙◌, arith, Some, ℤ, pos, negsuc, ◌+ℤ◌, inl, inr}
use Rattle.std.specs.Prelude.{◌⊎◌, slice_get, slice_set}
use Rattle.std.specs.Option.{option_map}
use Rattle.std.proofs.lemmas.Int.{ints}
use Rattle.std.proofs.lemmas.Option.{same_Some}
use Rattle.flat_circuit.specs.Circuit.{Circuit}
use Rattle.fixpoint_engine.specs.Waves.{Waves}
use Rattle.critical_paths.specs.declared.direction.Corner.{Corner}
use Rattle.critical_paths.specs.declared.direction.Corner.TheVariants.{Late, Early}
use Rattle.critical_paths.specs.declared.region.Region.{Region as Ticks}
use Rattle.critical_paths.specs.declared.event.Stop.{Stop}
use Rattle.critical_paths.specs.declared.arrival.Place.{Place}
use Rattle.critical_paths.specs.declared.gather.Reached.{Reached}
use Rattle.critical_paths.specs.declared.near.Near.{Near}
use Rattle.critical_paths.specs.declared.path.Node.{Node}
use Rattle.critical_paths.specs.declared.path.Passage.{Passage}
use Rattle.critical_paths.specs.Known.{Grows, IsNear, node_before, nodes_on, rest_of}
use Rattle.critical_paths.specs.Launch.{ticks_of}
use Rattle.critical_paths.specs.Tick.{IsWithin}
use Rattle.critical_paths.specs.Views.{end_at}
use Rattle.critical_paths.specs.Reached.{AddsOnly, AreWays, HasWay, IsBegin, IsBehind, IsEdgeRegion, IsWay, comes, ends_within, later, stop_at, time_of}
use Rattle.critical_paths.proofs.Nodes.{get_more}
use Rattle.critical_paths.proofs.Behind.{ends_behind}

-- ---- one that comes last, or in the place of another

pub after_one : {X : Type 0} (xs : List X) (y x : X) (k : ℕ) → slice_get (xs ++ y ∷ []) k ≡ Some x →
    ((k ≡ length xs) × (x ≡ y)) ⊎ (slice_get xs k ≡ Some x)
after_one [] y x zero at = inl (refl, sym (same_Some y x at))
after_one [] y x (suc k) at = absurd (cc)
after_one (z ∷ xs) y x zero at = inr at
after_one (z ∷ xs) y x (suc k) at = elim (after_one xs y x k at) [
  | inl last ↦ inl (ap (λ (n : ℕ). suc n) last.0, last.1)
  | inr before ↦ inr before
]

pub adds_end : (new : Reached) (old : List Reached) → AddsOnly new old (old ++ new ∷ [])
adds_end new old a among = elim (after_one old new a among.0 among.1) [
  | inl last ↦ inl last.1
  | inr before ↦ inr (among.0, before)
]

set_among : (xs : List Reached) (at : ℕ) (new a : Reached) (k : ℕ) →
    slice_get (slice_set xs at new) k ≡ Some a → (a ≡ new) ⊎ (slice_get xs k ≡ Some a)
set_among [] at new a k is = absurd (cc)
set_among (x ∷ xs) zero new a zero is = inl (sym (same_Some new a is))
set_among (x ∷ xs) zero new a (suc k) is = inr is
set_among (x ∷ xs) (suc at) new a zero is = inr is
set_among (x ∷ xs) (suc at) new a (suc k) is = set_among xs at new a k is

pub adds_further : (b : Bool) (new : Reached) (old : List Reached) (at : ℕ) →
    AddsOnly new old (cond b (slice_set old at new) old)
adds_further true new old at a among = elim (set_among old at new a among.0 among.1) [
  | inl own ↦ inl own
  | inr before ↦ inr (among.0, before)
]
adds_further false new old at a among = inr among

-- ---- at a clock

pub end_near : (c : Circuit) (ws : Waves) (q : Place) (corner : Corner) (r : Ticks) (t : ℤ) →
    IsEdgeRegion c ws q r → t ≡ end_at corner r → IsNear 65536 t
end_near c ws q Late r t edge is = subst (IsNear 65536) (sym is) edge.last
end_near c ws q Early r t edge is = subst (IsNear 65536) (sym is) edge.first

pub nearer : (t : ℤ) → IsNear 65536 t → IsNear 131072 t
nearer t near =
    let low = near.low in
    let high = near.high in
    record { low = omega (arith, ints, low); high = omega (arith, ints, high) }

nothing_on : (k i : ℕ) → nodes_on [] k i ≡ []
nothing_on zero i = refl
nothing_on (suc k) i = refl

-- a node at which a path ends is one event
pub lone_count : (n : Node) → n.count ≡ 1 + length (rest_of [] n) → n.count ≡ 1
lone_count n count = count ∙ ap (λ (l : List Node). 1 + length l) (nothing_on (n.count - 1) n.next)

pub lone_near : (n : Node) → n.count ≡ 1 + length (rest_of [] n) → IsNear (131072 * n.count) n.age →
    IsNear 131072 n.age
lone_near n count near =
    let one = lone_count n count in
    let low = near.low in
    let high = near.high in
    record { low = omega (arith, ints, one, low); high = omega (arith, ints, one, high) }

near_within : (most : ℕ) (z : ℤ) → IsNear most z → IsWithin most z
near_within most (pos n) near = let high = near.high in omega (arith, ints, high)
near_within most (negsuc n) near = let low = near.low in omega (arith, ints, low)

-- ---- ways

module _ (c : Circuit) (ws : Waves) where
  pub no_ways : (nodes : List Node) (q : Place) (some : List Reached) → some ≡ [] →
      AreWays c ws nodes q some
  no_ways nodes q some none k r at =
      let nothing = sym (ap (λ (l : List Reached). slice_get l k) none) ∙ at in absurd (cc)

  module _ (old more : List Node) where
    pub way_grown : (left : ℕ) (q : Place) (t : ℤ × ℤ) (n : Node) → IsWay c ws old left q t n →
        IsWay c ws (old ++ more) left q t n
    way_grown zero q t n way = way
    way_grown (suc left) q t n (inl begin) = inl begin
    way_grown (suc left) q t n (inr on) =
        let from = on.1.1.1 in
        inr (
          on.0,
          (
            on.1.0,
            (
              on.1.1.0,
              record {
                through = from.through;
                time = from.time;
                short = from.short;
                event = from.event;
                next = get_more old more n.next on.1.1.0 from.next;
                node = from.node;
              },
              way_grown left on.0.0 on.1.0 on.1.1.0 on.1.1.2,
            ),
          ),
        )

  pub has_grown : (old new : List Node) (q : Place) (a : Near) → Grows old new →
      HasWay c ws old q a → HasWay c ws new q a
  has_grown old new q a grows has =
      subst (λ (nodes : List Node). HasWay c ws nodes q a) (sym grows.is) (
        has.0,
        get_more old grows.more a.node has.0 has.1,
        way_grown old grows.more has.0.count q (a.ideal, a.tick) has.0 has.2,
      )

  module _ (nodes : List Node) where
    pub way_few : (left : ℕ) (q : Place) (t : ℤ × ℤ) (n : Node) → IsWay c ws nodes left q t n →
        (most : ℕ) → ends_within c ws most q ≡ true → n.count ≤ most
    way_few zero q t n way most ends = absurd way
    way_few (suc left) q t n way zero ends = absurd (cc)
    way_few (suc left) q t n (inl begin) (suc most) ends =
        let one = begin.count in omega (arith, one)
    way_few (suc left) q t n (inr on) (suc most) ends =
        let from = on.1.1.1 in
        let rest = way_few left on.0.0 on.1.0 on.1.1.0 on.1.1.2 most
        (ends_behind c ws q on.0 from.through most ends) in
        let count : n.count ≡ on.1.1.0.count + 1 = ap (λ (m : Node). m.count) from.node in
        omega (arith, rest, count)

    pub way_short : (left : ℕ) (q : Place) (t : ℤ × ℤ) (n : Node) → IsWay c ws nodes left q t n →
        IsNear (131072 * n.count) n.age
    way_short zero q t n way = absurd way
    way_short (suc left) q t n (inl begin) =
        let one = begin.count in
        let low = begin.short.low in
        let high = begin.short.high in
        record { low = omega (arith, ints, one, low); high = omega (arith, ints, one, high) }
    way_short (suc left) q t n (inr on) =
        let from = on.1.1.1 in
        let rest = way_short left on.0.0 on.1.0 on.1.1.0 on.1.1.2 in
        let low = rest.low in
        let high = rest.high in
        let less = from.short.low in
        let most = from.short.high in
        let count : n.count ≡ on.1.1.0.count + 1 = ap (λ (m : Node). m.count) from.node in
        let age : n.age ≡ on.1.1.0.age +ℤ ticks_of on.0.1 = ap (λ (m : Node). m.age) from.node in
        record {
          low = omega (arith, ints, count, age, low, less);
          high = omega (arith, ints, count, age, high, most);
        }

    -- the event comes as long after the edge as its node tells
    way_age : (left : ℕ) (q : Place) (t : ℤ × ℤ) (n : Node) → IsWay c ws nodes left q t n →
        t.1 ≡ t.0 +ℤ n.age
    way_age zero q t n way = absurd way
    way_age (suc left) q t n (inl begin) = let edge = begin.edge in omega (arith, ints, edge)
    way_age (suc left) q t n (inr on) =
        let from = on.1.1.1 in
        let rest = way_age left on.0.0 on.1.0 on.1.1.0 on.1.1.2 in
        let edge : t.0 ≡ on.1.0.0 = ap (λ (x : ℤ × ℤ). x.0) from.time in
        let tick : t.1 ≡ on.1.0.1 +ℤ ticks_of on.0.1 = ap (λ (x : ℤ × ℤ). x.1) from.time in
        let age : n.age ≡ on.1.1.0.age +ℤ ticks_of on.0.1 = ap (λ (m : Node). m.age) from.node in
        omega (arith, ints, rest, edge, tick, age)

    -- no ideal edge is far
    way_edge : (left : ℕ) (q : Place) (t : ℤ × ℤ) (n : Node) → IsWay c ws nodes left q t n →
        IsNear 262144 t.0
    way_edge zero q t n way = absurd way
    way_edge (suc left) q t n (inl begin) =
        let edge = begin.edge in
        let low = begin.short.low in
        let high = begin.short.high in
        let from = begin.near.low in
        let to = begin.near.high in
        record {
          low = omega (arith, ints, edge, high, from);
          high = omega (arith, ints, edge, low, to);
        }
    way_edge (suc left) q t n (inr on) =
        let rest = way_edge left on.0.0 on.1.0 on.1.1.0 on.1.1.2 in
        subst (IsNear 262144) (sym (ap (λ (x : ℤ × ℤ). x.0) on.1.1.1.time)) rest

    -- nor is what comes after a way of few elements
    pub way_near : (left : ℕ) (q : Place) (t : ℤ × ℤ) (n : Node) → IsWay c ws nodes left q t n →
        n.count ≤ 65537 → (ticks : ℤ) → IsNear 131072 ticks → IsWithin (2 ^ 46) (t.1 +ℤ ticks)
    way_near left q t n way few ticks near =
        let age = way_age left q t n way in
        let edge = way_edge left q t n way in
        let short = way_short left q t n way in
        let low = edge.low in
        let high = edge.high in
        let less = short.low in
        let most = short.high in
        let from = near.low in
        let to = near.high in
        near_within (2 ^ 46) (t.1 +ℤ ticks) record {
          low = omega (arith, ints, age, few, low, less, from);
          high = omega (arith, ints, age, few, high, most, to);
        }

    -- the next event of a way
    pub way_on : (q b : Place) (p : Passage) (behind : Near) (s : Stop) (r : Reached) →
        IsBehind c q (b, p) → HasWay c ws nodes b behind → IsNear 131072 (ticks_of p) →
        comes c ws q (time_of r) ≡ true → s ≡ stop_at c q r.near.tick →
        time_of r ≡ later p (behind.ideal, behind.tick) →
        option_map (node_before s p behind.node) (slice_get nodes behind.node) ≡ Some r.event →
        IsWay c ws nodes r.event.count q (time_of r) r.event
    way_on q b p behind s r is has short event stop time made =
        let n = has.0 in
        let node : node_before s p behind.node n ≡ r.event =
        same_Some (node_before s p behind.node n) r.event
        (sym (ap (option_map (node_before s p behind.node)) has.1) ∙ made) in
        let next : behind.node ≡ r.event.next = ap (λ (m : Node). m.next) node in
        let one : n.count + 1 ≡ suc n.count = omega arith in
        let count : suc n.count ≡ r.event.count =
        sym one ∙ ap (λ (m : Node). m.count) node in
        subst (λ (left : ℕ). IsWay c ws nodes left q (time_of r) r.event) count
        (inr (
          (b, p),
          (
            (behind.ideal, behind.tick),
            (
              n,
              record {
                through = is;
                time = time;
                short = short;
                event = event;
                next = subst (λ (k : ℕ). slice_get nodes k ≡ Some n) next has.1;
                node = sym node ∙ (λ i. node_before (stop i) p (next i) n);
              },
              has.2,
            ),
          ),
        ))

    -- and the first
    pub way_first : (q : Place) (r : Reached) → IsBegin c ws q (time_of r) r.event →
        IsWay c ws nodes r.event.count q (time_of r) r.event
    way_first q r begin =
        subst (λ (left : ℕ). IsWay c ws nodes left q (time_of r) r.event)
        (let one : 1 ≡ suc 0 = refl in sym (begin.count ∙ one)) (inl begin)
