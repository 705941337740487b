-- Where items stand, by their names.
use Rattle.std.specs.Prelude.{◌≡◌, ℕ, Bool, List, Option, Some, None, slice_get}
use Rattle.std.specs.List.{position_from}
use Rattle.std.specs.Map.{lookup}
use Rattle.std.specs.Str.{bytes_eq}
use Rattle.std.specs.Borrow.{Bor}

-- two names are one
abbrev pub is_key : Bor (List ℕ) → Bor (List ℕ) → Bool
is_key name key = bytes_eq name.now key.now

-- Each name leads to the place of its first item.
abbrev pub LeadToFirst : {X : Type 0} → (X → List ℕ) → List X → List (Bor (List ℕ) × ℕ) → Type 0
LeadToFirst name_of items places = (name : Bor (List ℕ)) → lookup (is_key name) places
    ≡ position_from (λ x. bytes_eq (name_of x) name.now) 0 items

abbrev pub item_at : {X : Type 0} → List X → Option ℕ → Option X
item_at items None = None
item_at items (Some place) = slice_get items place
