-- The parts of the text of a net or of an instance: the labels of the uses that it is in, each with
-- a slash after it, and then a base or a label.
use Rattle.std.specs.Prelude.{ℕ, ◌==◌, Bool, false, List, [], ◌∷◌, ◌++◌, if◌then◌else◌}
use Rattle.std.specs.List.{list_any}

abbrev pub has_slash : List ℕ → Bool
has_slash bytes = list_any (λ b. b == 47) bytes

-- up to the last slash and with it
abbrev pub scope_part : List ℕ → List ℕ
scope_part [] = []
scope_part (b ∷ bs) = if has_slash (b ∷ bs) then b ∷ scope_part bs else []

-- what follows it
abbrev pub last_part : List ℕ → List ℕ
last_part [] = []
last_part (b ∷ bs) = if has_slash (b ∷ bs) then last_part bs else b ∷ bs

-- The text of a global begins with a slash.
abbrev pub is_global_text : List ℕ → Bool
is_global_text [] = false
is_global_text (b ∷ bs) = b == 47

-- Labels without what FORs put after them: a # and a value for each.
abbrev mutual
  pub unturned : List ℕ → List ℕ
  unturned [] = []
  unturned (b ∷ bs) = if b == 35 then after_turn bs else b ∷ unturned bs

  pub after_turn : List ℕ → List ℕ
  after_turn [] = []
  after_turn (b ∷ bs) = if b == 47 then b ∷ unturned bs else after_turn bs

-- ---- the labels of a scope

-- in front of the first label
abbrev pub in_front : List ℕ → List (List ℕ) → List (List ℕ)
in_front bytes [] = []
in_front bytes (label ∷ labels) = (bytes ++ label) ∷ labels

-- labels that have a slash after them each
abbrev pub labels : List ℕ → List (List ℕ)
labels [] = []
labels (b ∷ bs) = if b == 47 then [] ∷ labels bs else in_front (b ∷ []) (labels bs)

-- as they stand in the drawing
abbrev pub labels_of : List ℕ → List (List ℕ)
labels_of scope = labels (unturned scope)
