-- The names of nets at their places in name order, and the scopes and the base that stand in them.
use Rattle.std.specs.Prelude.{ℕ, Bool, false, ◌==◌, List, [], ◌∷◌, slice_get, Option, Some, None, if◌then◌else◌}
use Rattle.flat_circuit.specs.Name.{Name, name_at, nameless}
use Rattle.flat_circuit.specs.Circuit.{Circuit, net_names}

-- what is past the last place has no name
abbrev pub name_in : Circuit → Option ℕ → Name
name_in c None = nameless
name_in c (Some i) = name_at (net_names c.nets) i

abbrev pub name_of : Circuit → ℕ → Name
name_of c place = name_in c (slice_get c.order place)

-- ---- the parts of a whole name: each label that a slash follows is a scope, and the rest the base

pub record Parts : Type 0 where
  pub scopes : List (List ℕ)
  pub base : List ℕ

abbrev pub in_front : ℕ → List (List ℕ) → List ℕ → Parts
in_front b [] base = record { scopes = []; base = b ∷ base }
in_front b (scope ∷ scopes) base = record { scopes = (b ∷ scope) ∷ scopes; base = base }

abbrev pub parts_of : List ℕ → Parts
parts_of [] = record { scopes = []; base = [] }
parts_of (b ∷ bs) =
    if b == 47 then record { scopes = [] ∷ (parts_of bs).scopes; base = (parts_of bs).base }
    else in_front b (parts_of bs).scopes (parts_of bs).base

-- a global begins with a slash: it stands in no scope, and its base is its whole name
abbrev pub is_global : List ℕ → Bool
is_global [] = false
is_global (b ∷ bs) = b == 47

abbrev pub scopes_of : List ℕ → List (List ℕ)
scopes_of text = if is_global text then [] else (parts_of text).scopes

abbrev pub base_of : List ℕ → List ℕ
base_of text = if is_global text then text else (parts_of text).base
