-- A search backwards for the nodes that a loop reaches, and what it knows on its way.
use Rattle.std.specs.Prelude.{◌≡◌, ◌≢◌, ◌++◌, ℕ, ◌+◌, ◌-◌, ◌<◌, ◌≤◌, List, [], ◌∷◌, length, slice_get, slice_index_or, slice_set, Option, Some, None, ◌⊎◌}
use Rattle.std.specs.List.{All}
use Rattle.flat_circuit.specs.Loop.{Reaches, IsFromLoop}
use Rattle.flat_circuit.specs.declared.search.Node.{Node}
use Rattle.flat_circuit.specs.declared.search.Frame.{Frame}
use Rattle.flat_circuit.specs.declared.search.Mark.{Mark}
use Rattle.flat_circuit.specs.declared.search.Mark.TheVariants.{Fresh, Open, Clear, Looped}

abbrev pub feeders_at : Option Node → List ℕ
feeders_at None = []
feeders_at (Some n) = n.feeders.items

-- the nodes that feed a node
abbrev pub feeders_of : List Node → ℕ → List ℕ
feeders_of nodes j = feeders_at (slice_get nodes j)

-- i feeds j
pub record Feeds (feeders : ℕ → List ℕ) (i j : ℕ) : Type 0 where
  pub at : ℕ
  pub below : at < length (feeders j)
  pub is : slice_index_or (feeders j) at 0 ≡ i

-- j can be reached from i
abbrev pub Leads : (ℕ → List ℕ) → ℕ → ℕ → Type 0
Leads feeders i j = Reaches (Feeds feeders) i j

-- a loop reaches j
abbrev pub IsFedByLoop : (ℕ → List ℕ) → ℕ → Type 0
IsFedByLoop feeders j = IsFromLoop (Feeds feeders) j

pub record IsFirstFed (feeders : ℕ → List ℕ) (j : ℕ) : Type 0 where
  pub is : IsFedByLoop feeders j
  pub first : (i : ℕ) → i < j → ¬ (IsFedByLoop feeders i)

-- all that feeds j, however far back, ends
pub data IsClear (feeders : ℕ → List ℕ) : ℕ → Type 0 where
  Cleared : {j : ℕ} → ((i : ℕ) → Feeds feeders i j → IsClear feeders i) → IsClear feeders j

abbrev pub AreInRange : List Node → Type 0
AreInRange nodes = (j : ℕ) → All (λ i. i < length nodes) (feeders_of nodes j)

abbrev pub mark_at : List Mark → ℕ → Mark
mark_at marks i = slice_index_or marks i Fresh

-- what marks say is true
pub record AreMarks (nodes : List Node) (marks : List Mark) : Type 0 where
  pub length_marks : length marks ≡ length nodes
  pub clear : (i : ℕ) → mark_at marks i ≡ Clear → IsClear (feeders_of nodes) i
  pub looped : (i : ℕ) → mark_at marks i ≡ Looped → IsFedByLoop (feeders_of nodes) i

abbrev pub HasNoOpen : List Mark → Type 0
HasNoOpen marks = (i : ℕ) → mark_at marks i ≢ Open

abbrev pub StaysMarked : List Mark → List Mark → Type 0
StaysMarked old new = (i : ℕ) → mark_at old i ≢ Fresh → mark_at new i ≢ Fresh

abbrev pub FramesIn : ℕ → List Frame → Type 0
FramesIn n path = All (λ (f : Frame). f.node < n) path

-- each node of the path looped
abbrev pub closed : List Mark → List Frame → List Mark
closed marks [] = marks
closed marks (f ∷ fs) = closed (slice_set marks f.node Looped) fs

-- the path, its newest frame first
abbrev pub newest_first : List Frame → List Frame
newest_first [] = []
newest_first (f ∷ fs) = newest_first fs ++ f ∷ []

abbrev pub On : ℕ → List Frame → Type 0
On i [] = ⊥
On i (f ∷ fs) = (i ≡ f.node) ⊎ On i fs

-- a frame waits for the pin before `at`; the feeders before that one are clear
pub record Waits (nodes : List Node) (marks : List Mark) (f : Frame) (child : ℕ) : Type 0 where
  pub node_in : f.node < length nodes
  pub some : 0 < f.at
  pub at_in : f.at ≤ length (feeders_of nodes f.node)
  pub is : slice_index_or (feeders_of nodes f.node) (f.at - 1) 0 ≡ child
  pub passed : (t : ℕ) → t < f.at - 1 →
      mark_at marks (slice_index_or (feeders_of nodes f.node) t 0) ≡ Clear

abbrev pub Chain : List Node → List Mark → List Frame → ℕ → Type 0
Chain nodes marks [] child = Unit {0}
Chain nodes marks (f ∷ fs) child = Waits nodes marks f child × Chain nodes marks fs f.node

-- what the search knows at a node, `at` of whose feeders it has passed, with these frames below it
pub record Searching (nodes : List Node) (start marks : List Mark) (fs : List Frame)
    (node at : ℕ) : Type 0 where
  pub marks_are : AreMarks nodes marks
  pub node_in : node < length nodes
  pub passed : (t : ℕ) → t < at → mark_at marks (slice_index_or (feeders_of nodes node) t 0) ≡ Clear
  pub chain : Chain nodes marks fs node
  pub on_path : (i : ℕ) → mark_at marks i ≡ Open → (i ≡ node) ⊎ On i fs
  pub stays : StaysMarked start marks

pub record Found (nodes : List Node) (start marks : List Mark) : Type 0 where
  pub marks_are : AreMarks nodes marks
  pub none : HasNoOpen marks
  pub stays : StaysMarked start marks

-- what is left to do
abbrev pub fresh_cost : Mark → Node → ℕ
fresh_cost Fresh n = length n.feeders.items + 2
fresh_cost _ n = 0

abbrev pub fresh_left : List Mark → List Node → ℕ
fresh_left (m ∷ ms) (n ∷ ns) = fresh_cost m n + fresh_left ms ns
fresh_left _ _ = 0

abbrev pub path_left : List Node → List Frame → ℕ
path_left nodes [] = 0
path_left nodes (f ∷ fs) = (length (feeders_of nodes f.node) - f.at) + 1 + path_left nodes fs

pub record IsFeeder (nodes : List Node) (node at pin : ℕ) : Type 0 where
  pub below : at < length (feeders_of nodes node)
  pub is : pin ≡ slice_index_or (feeders_of nodes node) at 0
  pub inside : pin < length nodes

pub record IsFirstLooped (marks : List Mark) (k : ℕ) : Type 0 where
  pub below : k < length marks
  pub is : mark_at marks k ≡ Looped
  pub first : (i : ℕ) → i < k → mark_at marks i ≢ Looped
