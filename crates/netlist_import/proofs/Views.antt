-- The view of an array and of an object, level by level.
use Rattle.std.proofs.Common.{◌≡◌, ℕ, List, [], ◌∷◌, map, Some, refl, sym, ap, ◌∙◌}
use Rattle.std.specs.Global.{Vec}
use Rattle.std.specs.Borrow.{Bor}
use Rattle.netlist_import.specs.declared.value.Json.{Json}
use Rattle.netlist_import.specs.declared.value.Json.TheVariants as json
use Rattle.netlist_import.specs.declared.value.Json.TheVariants.{rolls-Array, rolls-Object}
use Rattle.netlist_import.specs.declared.value.Json.TheOpen as layer
use Rattle.netlist_import.specs.declared.value.Json.TheFolds.{fold-roll-Json}
use Rattle.netlist_import.specs.Placed.{Placed, Member, array, object, items_of, members_of, listed_items, listed_members, array_of, object_of, member_seen, placed_layer, placed_of, member_of}

-- ---- lists of values, there and back

pub listed_items_of : (vs : List Placed) → listed_items (items_of vs) ≡ vs
listed_items_of [] = refl
listed_items_of (v ∷ vs) = ap (λ (xs : List Placed). v ∷ xs) (listed_items_of vs)

pub listed_members_of : (ms : List Member) → listed_members (members_of ms) ≡ ms
listed_members_of [] = refl
listed_members_of (m ∷ ms) = ap (λ (xs : List Member). m ∷ xs) (listed_members_of ms)

-- a member's name and its value, seen in two steps or in one
pub members_seen : (ms : List (Bor (List ℕ) × Json)) →
    map member_seen (map (λ (m : Bor (List ℕ) × Json). (m.0, placed_of m.1)) ms) ≡ map member_of ms
members_seen [] = refl
members_seen (m ∷ ms) = ap (λ (xs : List Member). member_of m ∷ xs) (members_seen ms)

-- ---- the views

pub view_array : (n : ℕ) (v : Vec Json) → placed_of (json.Array n v)
    ≡ array n (items_of (map placed_of v.items))
view_array n v = ap placed_of (sym (rolls-Array n v))
    ∙ fold-roll-Json Placed placed_layer (layer.Array n v)

pub view_object : (n : ℕ) (v : Vec (Bor (List ℕ) × Json)) → placed_of (json.Object n v)
    ≡ object n (members_of (map member_of v.items))
view_object n v =
    ap placed_of (sym (rolls-Object n v))
    ∙ (fold-roll-Json Placed placed_layer (layer.Object n v)
    ∙ ap (λ (ms : List Member). object n (members_of ms)) (members_seen v.items))

-- ---- what is in them

pub array_view : (n : ℕ) (v : Vec Json) → array_of (placed_of (json.Array n v))
    ≡ Some (map placed_of v.items)
array_view n v = ap array_of (view_array n v)
    ∙ ap (λ (vs : List Placed). Some vs) (listed_items_of (map placed_of v.items))

pub object_view : (n : ℕ) (v : Vec (Bor (List ℕ) × Json)) → object_of (placed_of (json.Object n v))
    ≡ Some (map member_of v.items)
object_view n v = ap object_of (view_object n v)
    ∙ ap (λ (ms : List Member). Some ms) (listed_members_of (map member_of v.items))
