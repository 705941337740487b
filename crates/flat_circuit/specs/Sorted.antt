-- An order of nodes in which each follows those that feed it, and what the search for one knows on
-- its way.
use Rattle.std.specs.Prelude.{◌≡◌, ◌≢◌, ◌++◌, ℕ, ◌+◌, ◌-◌, ◌<◌, ◌≤◌, List, [], ◌∷◌, length, slice_index_or, ◌⊎◌}
use Rattle.std.specs.List.{All}
use Rattle.flat_circuit.specs.declared.node.Node.{Node}
use Rattle.flat_circuit.specs.declared.order_search.Frame.{Frame}
use Rattle.flat_circuit.specs.declared.order_search.Mark.{Mark}
use Rattle.flat_circuit.specs.declared.order_search.Mark.TheVariants.{Fresh, Open, Clear}
use Rattle.flat_circuit.specs.Node.{feeders_of, Feeds}

-- ---- orders

-- i stands in the order before place b
pub record StandsBefore (order : List ℕ) (i b : ℕ) : Type 0 where
  pub place : ℕ
  pub before : place < b
  pub is : slice_index_or order place 0 ≡ i

-- each stands once, and after all that feeds it
pub record IsPlaced (feeders : ℕ → List ℕ) (order : List ℕ) : Type 0 where
  pub once : (a b : ℕ) → a < length order → b < length order →
      slice_index_or order a 0 ≡ slice_index_or order b 0 → a ≡ b
  pub fed : (b i : ℕ) → b < length order → Feeds feeders i (slice_index_or order b 0) →
      StandsBefore order i b

-- such an order of all nodes below n
pub record IsSorted (feeders : ℕ → List ℕ) (n : ℕ) (order : List ℕ) : Type 0 where
  pub placed : IsPlaced feeders order
  pub inside : All (λ k. k < n) order
  pub whole : (k : ℕ) → k < n → StandsBefore order k (length order)

-- ---- marks

abbrev pub mark_at : List Mark → ℕ → Mark
mark_at marks i = slice_index_or marks i Fresh

-- the clear nodes are those that the order has
pub record AreMarks (nodes : List Node) (marks : List Mark) (order : List ℕ) : Type 0 where
  pub length_marks : length marks ≡ length nodes
  pub placed : IsPlaced (feeders_of nodes) order
  pub clear : (b : ℕ) → b < length order → mark_at marks (slice_index_or order b 0) ≡ Clear
  pub has : (i : ℕ) → mark_at marks i ≡ Clear → StandsBefore order i (length order)

abbrev pub HasNoOpen : List Mark → Type 0
HasNoOpen marks = (i : ℕ) → mark_at marks i ≢ Open

abbrev pub StaysMarked : List Mark → List Mark → Type 0
StaysMarked old new = (i : ℕ) → mark_at old i ≢ Fresh → mark_at new i ≢ Fresh

-- ---- the path

-- the path, its newest frame first
abbrev pub newest_first : List Frame → List Frame
newest_first [] = []
newest_first (f ∷ fs) = newest_first fs ++ f ∷ []

abbrev pub On : ℕ → List Frame → Type 0
On i [] = ⊥
On i (f ∷ fs) = (i ≡ f.node) ⊎ On i fs

-- a frame waits for the pin before `at`; the feeders before that one are clear
pub record Waits (nodes : List Node) (marks : List Mark) (f : Frame) (child : ℕ) : Type 0 where
  pub node_in : f.node < length nodes
  pub open_is : mark_at marks f.node ≡ Open
  pub some : 0 < f.at
  pub at_in : f.at ≤ length (feeders_of nodes f.node)
  pub is : slice_index_or (feeders_of nodes f.node) (f.at - 1) 0 ≡ child
  pub passed : (t : ℕ) → t < f.at - 1 →
      mark_at marks (slice_index_or (feeders_of nodes f.node) t 0) ≡ Clear

abbrev pub Chain : List Node → List Mark → List Frame → ℕ → Type 0
Chain nodes marks [] child = Unit {0}
Chain nodes marks (f ∷ fs) child = Waits nodes marks f child × Chain nodes marks fs f.node

-- what the search knows at a node, `at` of whose feeders it has passed, with these frames below it
pub record Searching (nodes : List Node) (start marks : List Mark) (order : List ℕ)
    (fs : List Frame) (node at : ℕ) : Type 0 where
  pub marks_are : AreMarks nodes marks order
  pub node_in : node < length nodes
  pub open_is : mark_at marks node ≡ Open
  pub passed : (t : ℕ) → t < at → mark_at marks (slice_index_or (feeders_of nodes node) t 0) ≡ Clear
  pub chain : Chain nodes marks fs node
  pub on_path : (i : ℕ) → mark_at marks i ≡ Open → (i ≡ node) ⊎ On i fs
  pub stays : StaysMarked start marks

pub record Found (nodes : List Node) (start marks : List Mark) (order : List ℕ) : Type 0 where
  pub marks_are : AreMarks nodes marks order
  pub none : HasNoOpen marks
  pub stays : StaysMarked start marks

-- what is left to do
abbrev pub fresh_cost : Mark → Node → ℕ
fresh_cost Fresh n = length n.feeders.items + 2
fresh_cost _ n = 0

abbrev pub fresh_left : List Mark → List Node → ℕ
fresh_left (m ∷ ms) (n ∷ ns) = fresh_cost m n + fresh_left ms ns
fresh_left _ _ = 0

abbrev pub path_left : List Node → List Frame → ℕ
path_left nodes [] = 0
path_left nodes (f ∷ fs) = (length (feeders_of nodes f.node) - f.at) + 1 + path_left nodes fs
