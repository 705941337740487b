-- Each circuit has an order of evaluation, and so a run from each start.
use Rattle.std.proofs.Common.{◌≡◌, ◌≢◌, ℕ, zero, suc, ◌+◌, ◌<◌, ◌≤◌, true, false, eqb, List, [], ◌∷◌, ◌++◌, length, get_or, refl, sym, subst, arith, inl, inr, All}
use Rattle.std.specs.Prelude.{◌⊎◌}
use Rattle.std.specs.List.{list_any}
use Rattle.std.proofs.lemmas.Bool.{or_cases, eqb-true, false_from_ne_true, cases_eq}
use Rattle.std.proofs.lemmas.List.{get_or_push}
use Rattle.std.proofs.lemmas.List.Elements.{All-nil, All-push}
use Rattle.std.proofs.lemmas.List.Folds.{list_any_at}
use Rattle.std.proofs.lemmas.Map.Keys.{IsDistinct-from_apart}
use Rattle.std.proofs.lemmas.Map.Steps.{length-le_from_distinct_below}
use Rattle.flat_circuit.specs.Circuit.{Circuit, IsCircuit}
use Rattle.flat_circuit.specs.Loop.{By_one, And_then}
use Rattle.flat_circuit.specs.Node.{Feeds, Leads, AreLoopless}
use Rattle.flat_circuit.specs.Sorted.{StandsBefore, IsPlaced, IsSorted}
use Rattle.flat_circuit.proofs.Nodes.{reaches_map}
use Rattle.flat_circuit.proofs.OrderWalk.{before_more, length_more, placed_more}
use Rattle.trace_sim.specs.Order.{IsEvaluationOrder, feeders_in}
use Rattle.trace_sim.specs.Choice.{choices_of}
use Rattle.trace_sim.specs.Laws.{RunsExist}
use Rattle.trace_sim.specs.Making.{made, begun}
use Rattle.trace_sim.proofs.Orders.{out_below, feeds_reads, no_loop_of_readers, order_by}
use Rattle.trace_sim.proofs.Made.{simulated}

-- all that feeds j, however far back, ends
data IsClear (feeders : ℕ → List ℕ) : ℕ → Type 0 where
  Cleared : {j : ℕ} → ((i : ℕ) → Feeds feeders i j → IsClear feeders i) → IsClear feeders j

-- all that was placed so far
record Partial (feeders : ℕ → List ℕ) (n : ℕ) (order : List ℕ) : Type 0 where
  placed : IsPlaced feeders order
  inside : All (λ k. k < n) order

abbrev Has : List ℕ → ℕ → Type 0
Has order k = StandsBefore order k (length order)

-- an order that goes on from an old one, and has k
record Extended (feeders : ℕ → List ℕ) (n : ℕ) (old : List ℕ) (k : ℕ) : Type 0 where
  order : List ℕ
  partial : Partial feeders n order
  keeps : (x : ℕ) → Has old x → Has order x
  has : Has order k

-- and one that has the first m feeders of k
record WithFeeders (feeders : ℕ → List ℕ) (n : ℕ) (old : List ℕ) (k m : ℕ) : Type 0 where
  order : List ℕ
  partial : Partial feeders n order
  keeps : (x : ℕ) → Has old x → Has order x
  has : (t : ℕ) → t < m → Has order (get_or (feeders k) t 0)

-- and one that has all below m
record AllBelow (feeders : ℕ → List ℕ) (n m : ℕ) : Type 0 where
  order : List ℕ
  partial : Partial feeders n order
  has : (k : ℕ) → k < m → Has order k

has_more : (order : List ℕ) (x k : ℕ) → Has order k → Has (order ++ x ∷ []) k
has_more order x k h =
    let s = before_more order x k (length order) (omega arith) h in
    let l = s.before in
    let n = length_more order x in
    record { place = s.place; before = omega (arith, n, l); is = s.is }

in_or_not : (order : List ℕ) (k : ℕ) → Has order k ⊎ ((b : ℕ) → b < length order → get_or order b 0 ≢ k)
in_or_not [] k = inr (λ b l e. omega arith)
in_or_not (x ∷ xs) k =
    elim (cases_eq x k) as (λ _. Has (x ∷ xs) k ⊎ ((b : ℕ) → b < length (x ∷ xs) → get_or (x ∷ xs) b 0 ≢ k)) [
      | inl e ↦ inl (record { place = 0; before = omega arith; is = e })
      | inr d ↦ elim (in_or_not xs k) as (λ _. Has (x ∷ xs) k ⊎ ((b : ℕ) → b < length (x ∷ xs) → get_or (x ∷ xs) b 0 ≢ k)) [
        | inl h ↦ inl (record { place = suc h.place; before = (let l = h.before in omega arith); is = h.is })
        | inr n ↦ inr (at_each xs k x d n)
      ]
    ]
  where
    at_each : (xs : List ℕ) (k x : ℕ) → x ≢ k → ((b : ℕ) → b < length xs → get_or xs b 0 ≢ k) → (b : ℕ) → b < length (x ∷ xs) → get_or (x ∷ xs) b 0 ≢ k
    at_each xs k x d n zero l e = d e
    at_each xs k x d n (suc b) l e = n b (omega arith) e

-- no two are equal
abbrev AreApart : List ℕ → Type 0
AreApart xs = (i j d : ℕ) → i < j → j < length xs → eqb (get_or xs i d) (get_or xs j d) ≡ false

apart_more : (x : ℕ) (xs : List ℕ) → (list_any (eqb x) xs ≡ true → ⊥) → AreApart xs → AreApart (x ∷ xs)
apart_more x xs new a i zero d l m = absurd (omega arith)
apart_more x xs new a zero (suc j) d l m = false_from_ne_true (eqb x (get_or xs j d)) (λ e. new (list_any_at (eqb x) xs j d (omega arith) e))
apart_more x xs new a (suc i) (suc j) d l m = a i j d (omega arith) (omega arith)

module _ (feeders : ℕ → List ℕ) (n : ℕ) (loopless : AreLoopless feeders) (below : (i j : ℕ) → Feeds feeders i j → i < n) where
  -- A path backwards has no node twice, so it is at most n long: all that leads to a node ends.
  clear_by : (fuel : ℕ) (path : List ℕ) (k : ℕ) → AreApart (k ∷ path) → ((q : ℕ) → list_any (eqb q) (k ∷ path) ≡ true → q < n) →
      ((x : ℕ) → list_any (eqb x) path ≡ true → Leads feeders k x) → n ≤ length path + fuel → IsClear feeders k
  clear_by zero path k d b r l = let m = length-le_from_distinct_below (k ∷ path) n (IsDistinct-from_apart eqb (k ∷ path) d) b in absurd (omega arith)
  clear_by (suc fuel) path k d b r l = Cleared (λ i f. clear_by fuel (k ∷ path) i (apart_more i (k ∷ path) (λ e. loopless i (leads i f i e)) d) (inside i f) (leads i f) (omega arith))
    where
      leads : (i : ℕ) → Feeds feeders i k → (x : ℕ) → list_any (eqb x) (k ∷ path) ≡ true → Leads feeders i x
      leads i f x e = elim (or_cases (eqb x k) (list_any (eqb x) path) e) as (λ _. Leads feeders i x) [
        | inl s ↦ subst (Leads feeders i) (sym (eqb-true x k s)) (By_one f)
        | inr s ↦ And_then f (r x s)
      ]

      inside : (i : ℕ) → Feeds feeders i k → (q : ℕ) → list_any (eqb q) (i ∷ k ∷ path) ≡ true → q < n
      inside i f q e = elim (or_cases (eqb q i) (list_any (eqb q) (k ∷ path)) e) as (λ _. q < n) [
        | inl s ↦ subst (λ x. x < n) (sym (eqb-true q i s)) (below i k f)
        | inr s ↦ b q s
      ]

  all_clear : (k : ℕ) → k < n → IsClear feeders k
  all_clear k l = clear_by n [] k (apart_more k [] (λ e. cc) (λ i j d a b. absurd (omega arith))) (λ q e. elim (or_cases (eqb q k) false e)
      as (λ _. q < n) [ inl s ↦ subst (λ x. x < n) (sym (eqb-true q k s)) l | inr s ↦ absurd (cc) ]) (λ x e. absurd (cc)) (omega arith)

  -- a node is placed after its feeders
  fed_first : (k : ℕ) → ((i : ℕ) → Feeds feeders i k → (order : List ℕ) → Partial feeders n order → Extended feeders n order i) →
      (m : ℕ) → m ≤ length (feeders k) → (order : List ℕ) → Partial feeders n order → WithFeeders feeders n order k m
  fed_first k ih zero l order p = record { order = order; partial = p; keeps = λ x h. h; has = λ t b. absurd (omega arith) }
  fed_first k ih (suc m) l order p =
      let q = fed_first k ih m (omega arith) order p in
      let r = ih (get_or (feeders k) m 0) (record { at = m; below = omega arith; is = refl }) q.order q.partial in
      record {
        order = r.order;
        partial = r.partial;
        keeps = λ x h. r.keeps x (q.keeps x h);
        has = λ t b. elim (cases_eq t m) as (λ _. Has r.order (get_or (feeders k) t 0)) [
          | inl e ↦ subst
              (λ y. Has r.order (get_or (feeders k) y 0)) (sym e) r.has
          | inr d ↦ r.keeps (get_or (feeders k) t 0) (q.has t (omega arith))
        ];
      }

  then_itself : (k : ℕ) → k < n → (old : List ℕ) → WithFeeders feeders n old k (length (feeders k)) → Extended feeders n old k
  then_itself k l old q =
      elim (in_or_not q.order k) as (λ _. Extended feeders n old k) [
        | inl h ↦ record { order = q.order; partial = q.partial; keeps = q.keeps; has = h }
        | inr d ↦ record {
          order = q.order ++ k ∷ [];
          partial = record {
            placed = placed_more feeders q.order k d (λ i f. subst (Has q.order) f.is (q.has f.at f.below)) q.partial.placed;
            inside = All-push (λ x. x < n) q.order k q.partial.inside l;
          };
          keeps = λ x h. has_more q.order k x (q.keeps x h);
          has = record { place = length q.order; before = (let m = length_more q.order k in omega arith); is = get_or_push q.order k 0 (length q.order) refl };
        }
      ]

  placed : {k : ℕ} → IsClear feeders k → k < n → (order : List ℕ) → Partial feeders n order → Extended feeders n order k
  placed (Cleared {j = k} h) l order p = then_itself k l order (fed_first k (λ i f. placed (h i f) (below i k f)) (length (feeders k)) (omega arith) order p)

  all_placed : (m : ℕ) → m ≤ n → AllBelow feeders n m
  all_placed zero l = record {
    order = [];
    partial = record { placed = record { once = λ a b la lb q. absurd (omega arith); fed = λ b i lb q. absurd (omega arith) }; inside = All-nil (λ k. k < n) };
    has = λ k b. absurd (omega arith);
  }
  all_placed (suc m) l =
      let q = all_placed m (omega arith) in
      let r = placed (all_clear m (omega arith)) (omega arith) q.order q.partial in
      record {
        order = r.order;
        partial = r.partial;
        has = λ k b. elim (cases_eq k m) as (λ _. Has r.order k) [ inl e ↦ subst (Has r.order) (sym e) r.has | inr d ↦ r.keeps k (q.has k (omega arith)) ];
      }

  pub sorted : (order : List ℕ) × IsSorted feeders n order
  sorted = let q = all_placed n (omega arith) in (q.order, record { placed = q.partial.placed; inside = q.partial.inside; whole = q.has })

-- ---- of a circuit

pub order_exists : (c : Circuit) → IsCircuit c → (order : List ℕ) × IsEvaluationOrder c order
order_exists c known =
    let s = sorted (feeders_in c) (length c.instances) (λ i l. no_loop_of_readers c known i (reaches_map (feeds_reads c known) l)) (λ i j f. let r =
    feeds_reads c known i j f in out_below c.instances i r.net r.drives) in
    (s.0, order_by c s.0 known s.1)

pub runs_exist : RunsExist
runs_exist c choice ticks known fits =
    let o = order_exists c known in
    (made c ticks (choices_of choice) o.0 ticks (begun c choice), simulated c choice ticks known fits o.0 o.1)
