-- Nodes made one after the other: the feeders of each are those that it was made with.
use Rattle.std.proofs.Common.{◌≡◌, ℕ, zero, suc, ◌+◌, ◌<◌, ◌≤◌, List, [], ◌∷◌, length, map, ap, sym, subst, ◌∙◌, arith}
use Rattle.std.specs.List.{All, range_with_len}
use Rattle.std.proofs.lemmas.List.{length-map}
use Rattle.std.proofs.lemmas.List.FromFn.{length-map-range_with_len}
use Rattle.flat_circuit.specs.Loop.{Reaches, By_one, And_then}
use Rattle.flat_circuit.specs.declared.node.Node.{Node}
use Rattle.flat_circuit.specs.Node.{feeders_of, node_feeders, Feeds}
use Rattle.flat_circuit.specs.Sorted.{IsSorted}

-- what leads along one relation leads along a wider one
pub reaches_map : {R S : ℕ → ℕ → Type 0} → ((i j : ℕ) → R i j → S i j) → {i j : ℕ} → Reaches R i j → Reaches S i j
reaches_map wider (By_one {i} {j} r) = By_one (wider i j r)
reaches_map wider (And_then {i} {m} {j} r q) = And_then (wider i m r) (reaches_map wider q)

pub nodes_long : (nodes : List Node) (f : ℕ → List ℕ) (n : ℕ) → map node_feeders nodes ≡ map f (range_with_len 0 n) → length nodes ≡ n
nodes_long nodes f n made = sym (length-map nodes node_feeders) ∙ ap length made ∙ length-map-range_with_len f 0 n

feeders_from : (nodes : List Node) (f : ℕ → List ℕ) (first n : ℕ) → map node_feeders nodes ≡ map f (range_with_len first n) →
    ((j : ℕ) → first + n ≤ j → f j ≡ []) → (j k : ℕ) → first + j ≡ k → feeders_of nodes j ≡ f k
feeders_from [] f first zero made past j k at = sym (past k (omega arith))
feeders_from [] f first (suc n) made past j k at = absurd (cc)
feeders_from (x ∷ xs) f first zero made past j k at = absurd (cc)
feeders_from (x ∷ xs) f first (suc n) made past zero k at =
    let head : x.feeders.items ≡ f first = cc in
    let same : first ≡ k = omega arith in subst (λ v. x.feeders.items ≡ f v) same head
feeders_from (x ∷ xs) f first (suc n) made past (suc j) k at = feeders_from xs f (first + 1) n (cc) (λ i l. past i (omega arith)) j k (omega arith)

-- the feeders of each node, if a number past the last node has none
pub feeders_are : (nodes : List Node) (f : ℕ → List ℕ) (n : ℕ) → map node_feeders nodes ≡ map f (range_with_len 0 n) →
    ((j : ℕ) → n ≤ j → f j ≡ []) → (k : ℕ) → feeders_of nodes k ≡ f k
feeders_are nodes f n made past k = feeders_from nodes f 0 n made (λ j l. past j (omega (arith, l))) k k (omega arith)

pub feeds_as : (f g : ℕ → List ℕ) → ((k : ℕ) → f k ≡ g k) → (i j : ℕ) → Feeds f i j → Feeds g i j
feeds_as f g same i j feeds = record { at = feeds.at; below = rw (same j) at feeds.below; is = rw (same j) at feeds.is }

-- an order goes by the feeders alone
pub sorted_as : (f g : ℕ → List ℕ) (n m : ℕ) (order : List ℕ) → ((k : ℕ) → f k ≡ g k) → n ≡ m → IsSorted f n order → IsSorted g m order
sorted_as f g n m order same long sorted = record {
  placed = record {
    once = sorted.placed.once;
    fed = λ b i below feeds. sorted.placed.fed b i below (feeds_as g f (λ k. sym (same k)) i _ feeds);
  };
  inside = subst (λ c. All (λ k. k < c) order) long sorted.inside;
  whole = λ k below. sorted.whole k (omega (arith, long, below));
}
