-- Nodes by their numbers, and what leads to what.
use Rattle.std.specs.Prelude.{◌≡◌, ℕ, ◌<◌, List, [], length, slice_get, slice_index_or, Option, Some, None}
use Rattle.std.specs.List.{All}
use Rattle.flat_circuit.specs.Loop.{Reaches}
use Rattle.flat_circuit.specs.declared.node.Node.{Node}

abbrev pub feeders_at : Option Node → List ℕ
feeders_at None = []
feeders_at (Some n) = n.feeders.items

abbrev pub node_feeders : Node → List ℕ
node_feeders n = n.feeders.items

-- the nodes that feed a node
abbrev pub feeders_of : List Node → ℕ → List ℕ
feeders_of nodes j = feeders_at (slice_get nodes j)

-- i feeds j
pub record Feeds (feeders : ℕ → List ℕ) (i j : ℕ) : Type 0 where
  pub at : ℕ
  pub below : at < length (feeders j)
  pub is : slice_index_or (feeders j) at 0 ≡ i

-- j can be reached from i
abbrev pub Leads : (ℕ → List ℕ) → ℕ → ℕ → Type 0
Leads feeders i j = Reaches (Feeds feeders) i j

-- no node can be reached from itself
abbrev pub AreLoopless : (ℕ → List ℕ) → Type 0
AreLoopless feeders = (i : ℕ) → Leads feeders i i → ⊥

-- the feeders are among the nodes
abbrev pub AreInRange : List Node → Type 0
AreInRange nodes = (j : ℕ) → All (λ i. i < length nodes) (feeders_of nodes j)

-- the feeder at a place of a node
pub record IsFeeder (nodes : List Node) (node at pin : ℕ) : Type 0 where
  pub below : at < length (feeders_of nodes node)
  pub is : pin ≡ slice_index_or (feeders_of nodes node) at 0
  pub inside : pin < length nodes
