-- Parameters that are given, gone through from the last to the first.
use Rattle.std.specs.Prelude.{◌≡◌, ℕ, ◌≤◌, Bool, true, List, length, map, drop}
use Rattle.std.specs.Global.{Vec}
use Rattle.drawing_tree.specs.declared.statement.Assign.{Assign}
use Rattle.drawing_tree.specs.Tree.{assignment_of}
use Rattle.macro_expander.specs.Places.{LeadTo, assigned_name}
use Rattle.macro_expander.specs.Primitives.{are_of}

-- Those from a place on are known, none of them comes twice, and the entries lead to them by their
-- names.
pub record KnownBehind (known : List ℕ → Bool) (params : List Assign) (entries : List (Vec ℕ × ℕ))
    (place : ℕ) : Type 0 where
  pub within : place ≤ length params
  pub leads : LeadTo assigned_name entries params (drop place params)
  pub are : are_of known (map assignment_of (drop place params)) ≡ true
