-- PART: bits that nothing determines of a signal that is driven at another bit.
use Rattle.std.specs.Prelude.{◌≡◌, ℕ, Bool, false, ◌&&◌, List, [], ◌∷◌, codes, is_some, if◌then◌else◌, Option, Some, None}
use Rattle.std.specs.List.{flat_map, list_any}
use Rattle.std.specs.Global.{Vec}
use Rattle.std.specs.Str.{bytes_eq}
use Rattle.flat_circuit.specs.declared.net.Net.{Net}
use Rattle.flat_circuit.specs.Circuit.{Circuit}
use Rattle.listing.specs.Text.{line}
use Rattle.listing.specs.Names.{net_text}
use Rattle.drawing_omissions.specs.Loose.{name_of}

-- a driven bit of the signal of this name
abbrev pub is_driven_bit : List ℕ → Net → Bool
is_driven_bit name n = bytes_eq name n.name && is_some n.driver

abbrev pub is_driven : Circuit → List ℕ → Bool
is_driven c name = list_any (is_driven_bit name) c.nets

unfoldable pub part_line : Circuit → ℕ → List ℕ
part_line c i = line (codes "NOTE PART " ∷ net_text c i ∷ [])

abbrev pub part_at : Circuit → ℕ → List (List ℕ)
part_at c i = if is_driven c (name_of c i) then part_line c i ∷ [] else []

-- Of the nets that are loose, in the order of names. They have no driver, so a driven bit of the
-- same name is another one.
abbrev pub part : Circuit → List ℕ → List (List ℕ)
part c loose = flat_map (part_at c) loose

-- ---- by a set of names

abbrev pub is_among : List (Vec ℕ) → List ℕ → Bool
is_among keys name = list_any (λ (k : Vec ℕ). bytes_eq name k.items) keys

-- exactly the names of driven nets
abbrev pub AreDriven : List Net → List (Vec ℕ) → Type 0
AreDriven nets keys = (name : List ℕ) → is_among keys name ≡ list_any (is_driven_bit name) nets

abbrev pub is_driven_of : Option Net → List ℕ → Bool
is_driven_of None name = false
is_driven_of (Some n) name = is_driven_bit name n
