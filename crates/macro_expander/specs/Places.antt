-- Where items stand, by their names.
use Rattle.std.specs.Prelude.{◌≡◌, ℕ, ◌<◌, List, length}
use Rattle.std.specs.List.{find}
use Rattle.std.specs.Map.{lookup}
use Rattle.std.specs.Str.{bytes_eq}
use Rattle.std.specs.Global.{Vec}
use Rattle.drawing_tree.specs.declared.environment.Binding.{Binding}
use Rattle.drawing_tree.specs.declared.statement.Assign.{Assign}
use Rattle.macro_expander.specs.declared.scope.Bound.{Bound}
use Rattle.macro_expander.specs.Terms.{bit_at_place}

-- the base name of a formal
abbrev pub base_of : Bound → List ℕ
base_of f = f.base

-- the name of a parameter that is given or declared, and of one that has a value
abbrev pub assigned_name : Assign → List ℕ
assigned_name a = a.name

abbrev pub binding_name : Binding → List ℕ
binding_name b = b.name

-- the most items that are gone through one by one
abbrev pub few : ℕ
few = 8

-- Each name leads to its first item among those that are looked at.
pub record LeadTo {X : Type 0} (name_of : X → List ℕ) (entries : List (Vec ℕ × ℕ))
    (items seen : List X) : Type 0 where
  pub first : (name : List ℕ) → bit_at_place items (lookup (λ k. bytes_eq name k.items) entries)
      ≡ find (λ x. bytes_eq (name_of x) name) seen

-- The same of all items, if they are many. Few are found without their places.
pub record LeadWhereMany {X : Type 0} (name_of : X → List ℕ) (entries : List (Vec ℕ × ℕ))
    (items : List X) : Type 0 where
  pub many : few < length items → LeadTo name_of entries items items
