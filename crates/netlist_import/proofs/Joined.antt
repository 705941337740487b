-- The text of values that follow one another.
use Rattle.std.proofs.Common.{◌≡◌, ◌+◌, ◌<◌, ◌++◌, List, [], ◌∷◌, ℕ, length, get_or, map, take, refl, ap, ◌∙◌, sym, append_assoc}
use Rattle.std.proofs.lemmas.List.{append-nil, take_more}
use Rattle.std.specs.List.{flat_map}
use Rattle.std.specs.Prelude.{codes}
use Rattle.std.specs.Global.{Vec}
use Rattle.std.specs.Borrow.{Bor}
use Rattle.netlist_import.specs.declared.value.Json.{Json}
use Rattle.netlist_import.specs.declared.value.Json.TheVariants as json
use Rattle.netlist_import.specs.Placed.{Placed, Member, items_of, members_of, spelled, spelled_items, spelled_members, member_spelled, placed_of, member_of}
use Rattle.netlist_import.proofs.Views.{view_array, view_object}

-- ---- the text of an array and of an object

pub items_spelled : (vs : List Placed) → spelled_items (items_of vs) ≡ flat_map spelled vs
    ++ codes "]"
items_spelled [] = refl
items_spelled (v ∷ vs) = ap (λ (t : List ℕ). spelled v ++ t) (items_spelled vs)
    ∙ sym (append_assoc (spelled v) (flat_map spelled vs) (codes "]"))

pub members_spelled : (ms : List Member) → spelled_members (members_of ms)
    ≡ flat_map member_spelled ms ++ codes "}"
members_spelled [] = refl
members_spelled (m ∷ ms) =
    ap (λ (t : List ℕ). member_spelled m ++ t) (members_spelled ms)
    ∙ sym (append_assoc (member_spelled m) (flat_map member_spelled ms) (codes "}"))

pub array_spelled : (n : ℕ) (v : Vec Json) → spelled (placed_of (json.Array n v)) ≡ codes "["
    ++ flat_map spelled (map placed_of v.items) ++ codes "]"
array_spelled n v =
    ap spelled (view_array n v) ∙ ap (λ (t : List ℕ). codes "[" ++ t)
    (items_spelled (map placed_of v.items))

pub object_spelled : (n : ℕ) (v : Vec (Bor (List ℕ) × Json)) → spelled (placed_of (json.Object n v))
    ≡ codes "{" ++ flat_map member_spelled (map member_of v.items) ++ codes "}"
object_spelled n v =
    ap spelled (view_object n v) ∙ ap (λ (t : List ℕ). codes "{" ++ t)
    (members_spelled (map member_of v.items))

pub ruleset views = (array_spelled, object_spelled)

-- ---- one more

pub flat_map_more : {A : Type 0} {X : Type 0} (text : A → List ℕ) (view : X → A) (xs : List X)
    (x : X) →
    flat_map text (map view (xs ++ x ∷ [])) ≡ flat_map text (map view xs) ++ text (view x)
flat_map_more text view [] x = append-nil (text (view x))
flat_map_more text view (y ∷ ys) x =
    ap (λ (t : List ℕ). text (view y) ++ t) (flat_map_more text view ys x)
    ∙ sym (append_assoc (text (view y)) (flat_map text (map view ys)) (text (view x)))

pub flat_map_take : {A : Type 0} {X : Type 0} (text : A → List ℕ) (view : X → A) (xs : List X)
    (i : ℕ) (x : X) → i < length xs → x ≡ get_or xs i x →
    flat_map text (map view (take (i + 1) xs)) ≡ flat_map text (map view (take i xs))
    ++ text (view x)
flat_map_take text view xs i x h e =
    ap (λ ys. flat_map text (map view ys)) (take_more xs i x h)
    ∙ (flat_map_more text view (take i xs) (get_or xs i x)
    ∙ ap (λ y. flat_map text (map view (take i xs)) ++ text (view y)) (sym e))
