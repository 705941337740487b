-- A round of nodes, each of which leads to the next and the last to the first, tells the path of
-- each.
use Rattle.std.proofs.Common.{◌≡◌, ℕ, zero, suc, ◌+◌, ◌-◌, ◌*◌, ◌<◌, ◌≤◌, Bool, true, false, cond, List, [], ◌∷◌, length, slice_get, refl, sym, ap, subst, ◌∙◌, arith, Option, Some, ltb, lt-ltb, le-ltb, ℤ, pos, ◌+ℤ◌, ◌⊎◌, inl, inr}
use Rattle.std.specs.List.{AllByRecursion, list_any}
use Rattle.std.proofs.lemmas.Bool.{cases_lt, cases_eq, or_left, or_right, or_from}
use Rattle.std.proofs.lemmas.Int.{ints}
use Rattle.critical_paths.specs.declared.event.Stop.{Stop}
use Rattle.critical_paths.specs.declared.path.Passage.{Passage}
use Rattle.critical_paths.specs.declared.path.Origin.TheVariants.{Earlier}
use Rattle.critical_paths.specs.declared.path.Node.{Node}
use Rattle.critical_paths.specs.declared.path.End.{End as Ending}
use Rattle.critical_paths.specs.declared.path.End.TheVariants.{Loop as InLoop}
use Rattle.flat_circuit.specs.Circuit.{Circuit}
use Rattle.fixpoint_engine.specs.Waves.{Waves}
use Rattle.critical_paths.specs.Walk.{origin_of, same_stop, stop_count}
use Rattle.critical_paths.specs.Known.{Goes, IsAge, IsNear, Tells, last_on, nodes_on, on_from, rest_of, ticks_by, ticks_on}
use Rattle.critical_paths.proofs.Stops.{stop_self}

-- the place of the k-th event round a round of n, where k is less than twice as many
abbrev pub place_in : ℕ → ℕ → ℕ
place_in n k = cond (ltb k n) k (k - n)

pub place_low : (n k : ℕ) → k < n → place_in n k ≡ k
place_low n k low = ap (λ b. cond b k (k - n)) (lt-ltb k n low)

pub place_high : (n k : ℕ) → n ≤ k → place_in n k ≡ k - n
place_high n k high = ap (λ b. cond b k (k - n)) (le-ltb k n high)

pub place_below : (n k : ℕ) → k < n + n → place_in n k < n
place_below n k below = elim (cases_lt k n) [
  | inl low ↦ let e = place_low n k low in omega (arith, e)
  | inr high ↦ let e = place_high n k high in omega (arith, e, below, high)
]

-- within one round no place comes twice
place_apart : (n k i : ℕ) → k < i → i < k + n → i < n + n → place_in n i ≡ place_in n k → ⊥
place_apart n k i more near below same = elim (cases_lt k n) [
  | inl low ↦ elim (cases_lt i n) [
    | inl low' ↦ let e = place_low n k low in let f = place_low n i low' in
        absurd (omega (arith, e, f, same, more))
    | inr high' ↦ let e = place_low n k low in let f = place_high n i high' in
        absurd (omega (arith, e, f, same, near, high'))
  ]
  | inr high ↦ let e = place_high n k high in let f = place_high n i (omega (arith, high, more)) in
      absurd (omega (arith, e, f, same, more, high))
]

module _ (n : ℕ) (at : ℕ → Node) where
  abbrev pub node : ℕ → Node
  node k = at (place_in n k)

  -- so many nodes on from the k-th
  abbrev pub run : ℕ → ℕ → List Node
  run k zero = []
  run k (suc m) = node k ∷ run (k + 1) m

  pub run_long : (k m : ℕ) → length (run k m) ≡ m
  run_long k zero = refl
  run_long k (suc m) = ap suc (run_long (k + 1) m)

  -- ---- the nodes that a node leads to

  pub nodes_run : (nodes : List Node) (base : ℕ) →
      ((k : ℕ) → k < n → slice_get nodes (base + k) ≡ Some (at k)) →
      ((k : ℕ) → k + 1 < n + n → (node k).next ≡ base + place_in n (k + 1)) →
      (m k : ℕ) → k + m ≤ n + n → nodes_on nodes m (base + place_in n k) ≡ run k m
  nodes_run nodes base there next zero k short = refl
  nodes_run nodes base there next (suc zero) k short =
      ap (λ (o : Option Node). on_from o (nodes_on nodes zero))
      (there (place_in n k) (place_below n k (omega (arith, short))))
  nodes_run nodes base there next (suc (suc m)) k short =
      ap (λ (o : Option Node). on_from o (nodes_on nodes (suc m)))
      (there (place_in n k) (place_below n k (omega (arith, short))))
      ∙ ap (λ (i : ℕ). node k ∷ nodes_on nodes (suc m) i) (next k (omega (arith, short)))
      ∙ ap (λ (l : List Node). node k ∷ l) (nodes_run nodes base there next (suc m) (k + 1)
      (omega (arith, short)))

  -- what so many passages on from the k-th take
  abbrev pub ticks_at : ℕ → ℤ
  ticks_at k = ticks_by (node k).passage

  abbrev pub sum_of : ℕ → ℕ → ℤ
  sum_of k zero = pos 0
  sum_of k (suc m) = ticks_at k +ℤ sum_of (k + 1) m

  -- ---- the path of each

  module _ (c : Circuit) (ws : Waves)
      (step : (k : ℕ) → k + 1 < n + n → (p : Passage) × ((node k).passage ≡ Some p) ×
      (origin_of c ws (node k).stop ≡ Earlier p (node (k + 1)).stop))
      (apart : (a b : ℕ) → a < n → b < n → (a ≡ b → ⊥) → same_stop (at a).stop (at b).stop ≡ false)
    where
      differ : (k i : ℕ) → k < i → i < k + n → i < n + n → same_stop (node i).stop (node k).stop
          ≡ false
      differ k i more near below =
          apart (place_in n i) (place_in n k) (place_below n i below)
          (place_below n k (omega (arith, more, below)))
          (place_apart n k i more near below)

      -- the node a whole round on is the node itself
      again : (j : ℕ) → j < n → node (j + n) ≡ node j
      again j below =
          let high : place_in n (j + n) ≡ j = place_high n (j + n) (omega arith) ∙ back_again j n in
          ap at (high ∙ sym (place_low n j below))
        where
          back_again : (a b : ℕ) → a + b - b ≡ a
          back_again a b = omega arith

      round_goes : (j : ℕ) → j < n → (m k : ℕ) → k + m ≡ j + n → j ≤ k → (seen : List Stop) →
          ((i : ℕ) → k ≤ i → i < j + n → list_any (same_stop (node i).stop) seen ≡ false) →
          (j < k → list_any (same_stop (node j).stop) seen ≡ true) →
          Goes c ws seen InLoop (node k) (run (k + 1) m)
      round_goes j below zero k sum from seen new old =
          let whole : k ≡ j + n = omega (arith, sum) in
          let same : node k ≡ node j = ap node whole ∙ again j below in
          ap (λ (x : Node). list_any (same_stop x.stop) seen) same ∙ old (omega (arith, whole, below))
      round_goes j below (suc m) k sum from seen new old =
          let next = step k (omega (arith, sum, below)) in (
            new k (omega arith) (omega (arith, sum)),
            next,
            round_goes j below m (k + 1) (omega (arith, sum)) (omega (arith, from))
                ((node k).stop ∷ seen)
                (λ i more less. or_from (same_stop (node i).stop (node k).stop) _
                (differ k i (omega (arith, more)) (omega (arith, less, from, sum))
                (omega (arith, less, below)))
                (new i (omega (arith, more)) less))
                (λ more. elim (cases_eq j k) [
                  | inl here ↦ or_left (same_stop (node j).stop (node k).stop) _
                      (ap (λ (i : ℕ). same_stop (node j).stop (node i).stop) (sym here)
                      ∙ stop_self (node j).stop)
                  | inr behind ↦ or_right (same_stop (node j).stop (node k).stop) _
                      (old (omega (arith, from, behind)))
                ]),
          )

      -- ---- what it takes

      sum_end : (k m : ℕ) → sum_of k (suc m) ≡ sum_of k m +ℤ ticks_at (k + m)
      sum_end k zero = let e : ticks_at (k + 0) ≡ ticks_at k = ap ticks_at (omega arith) in
          omega (arith, ints, e)
      sum_end k (suc m) =
          let ih = sum_end (k + 1) m in
          let e : ticks_at (k + 1 + m) ≡ ticks_at (k + suc m) = ap ticks_at (omega arith) in
          omega (arith, ints, ih, e)

      turned_sum : (j : ℕ) → j < n → sum_of j n ≡ sum_of 0 n
      turned_sum zero below = refl
      turned_sum (suc j) below =
          let ih = turned_sum j (omega (arith, below)) in
          let ends = sum_end j n in
          let e : ticks_at (j + n) ≡ ticks_at j = ap (λ (x : Node). ticks_by x.passage)
          (again j (omega (arith, below))) in
          let f : sum_of (suc j) n ≡ sum_of (j + 1) n = ap (λ i. sum_of i n) (omega arith) in
          omega (arith, ints, ih, ends, e, f)

      run_ticks : (m k : ℕ) → ticks_on (node k) (run (k + 1) m) ≡ sum_of k m
      run_ticks zero k = refl
      run_ticks (suc m) k = ap (λ (z : ℤ). ticks_at k +ℤ z) (run_ticks m (k + 1))

      run_last : (m k : ℕ) → last_on (node k) (run (k + 1) m) ≡ (node (k + m)).stop
      run_last zero k = ap (λ i. (node i).stop) (omega arith)
      run_last (suc m) k = run_last m (k + 1) ∙ ap (λ i. (node i).stop) (omega arith)

      run_among : (among : Stop → Bool) → ((a : ℕ) → a < n → among (at a).stop ≡ true) → (m k : ℕ) →
          k + m ≤ n + n →
          AllByRecursion (λ (x : Node). among x.stop ≡ true) (run k m)
      run_among among each zero k short = tt
      run_among among each (suc m) k short = (
        each (place_in n k) (place_below n k (omega (arith, short))),
        run_among among each m
            (k + 1) (omega (arith, short)),
      )

      pub round_tells : (nodes : List Node) (base : ℕ) (among : Stop → Bool) →
          ((k : ℕ) → k < n → slice_get nodes (base + k) ≡ Some (at k)) →
          ((k : ℕ) → k + 1 < n + n → (node k).next ≡ base + place_in n (k + 1)) →
          ((a : ℕ) → a < n → among (at a).stop ≡ true) → n ≤ stop_count c →
          (j : ℕ) → j < n → (at j).count ≡ n + 1 → (at j).end ≡ InLoop → (at j).source
          ≡ (at j).stop.net →
          (at j).age ≡ sum_of 0 n → IsNear (131072 * (n + 1)) (at j).age →
          Tells c ws nodes among (at j).stop (at j)
      round_tells nodes base among there next each few j below count end source age near =
          let own : node j ≡ at j = ap at (place_low n j below) in
          let first : (at j).next ≡ base + place_in n (j + 1) = ap (λ (x : Node). x.next) (sym own)
          ∙ next j (omega (arith, below)) in
          let rest : rest_of nodes (at j) ≡ run (j + 1) n =
          ap (λ (i : ℕ). nodes_on nodes (i - 1) (at j).next) count
          ∙ ap (λ (i : ℕ). nodes_on nodes i (at j).next) (less_one n)
          ∙ ap (nodes_on nodes n) first ∙ nodes_run nodes base there next n (j + 1)
          (omega (arith, below)) in
          let long = run_long (j + 1) n in
          let goes : Goes c ws [] InLoop (node j) (run (j + 1) n) = round_goes j below n j refl
          (omega arith) [] (λ i more less. refl) (λ more. absurd (omega (arith, more))) in
          record {
            of = refl;
            count = omega (arith, count, long, ap length rest);
            few = omega (arith, count, few);
            goes = subst (λ (l : List Node). Goes c ws [] (at j).end (at j) l) (sym rest)
                (subst (λ (e : Ending). Goes c ws [] e (at j) (run (j + 1) n)) (sym end)
                (subst (λ (x : Node). Goes c ws [] InLoop x (run (j + 1) n)) own goes));
            age = subst (λ (e : Ending). IsAge c ws e (last_on (at j) (rest_of nodes (at j)))
                (ticks_on (at j) (rest_of nodes (at j))) (at j).age) (sym end)
                (age ∙ sym (turned_sum j below) ∙ sym (run_ticks n j)
                ∙ ap (λ (x : Node). ticks_on x (run (j + 1) n)) own
                ∙ ap (ticks_on (at j)) (sym rest));
            near = subst (λ (m : ℕ). IsNear (131072 * m) (at j).age) (sym count) near;
            source = source ∙ ap (λ (x : Node). x.stop.net) (sym own ∙ sym (again j below))
                ∙ ap (λ (s : Stop). s.net) (sym (run_last n j))
                ∙ ap (λ (x : Node). (last_on x (run (j + 1) n)).net) own
                ∙ ap (λ (l : List Node). (last_on (at j) l).net) (sym rest);
            all = subst (λ (l : List Node). AllByRecursion (λ (x : Node). among x.stop ≡ true)
                (at j ∷ l)) (sym rest)
                (each j below, run_among among each n (j + 1) (omega (arith, below)));
          }
        where
          less_one : (a : ℕ) → a + 1 - 1 ≡ a
          less_one a = omega arith

-- the place after one of the first two rounds is the next one, or the first again
pub place_next : (n k : ℕ) → k + 1 < n + n →
    ((place_in n k + 1 < n) × (place_in n (k + 1) ≡ place_in n k + 1)) ⊎
    ((place_in n k + 1 ≡ n) × (place_in n (k + 1) ≡ 0))
place_next n k below = elim (cases_lt k n) [
  | inl low ↦ let e = place_low n k low in elim (cases_lt (k + 1) n) [
    | inl low' ↦ let f = place_low n (k + 1) low' in inl
        (omega (arith, e, low'), omega (arith, e, f))
    | inr high' ↦ let f = place_high n (k + 1) high' in inr
        (omega (arith, e, low, high'), omega (arith, f, low, high'))
  ]
  | inr high ↦
      let e = place_high n k high in
      let f = place_high n (k + 1) (omega (arith, high)) in
      inl (omega (arith, e, high, below), omega (arith, e, f, high))
]
