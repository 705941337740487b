-- A value of a JSON text, each part with the number of its first token. Tokens count from 0;
-- numbers stay at 4,294,967,295, which no text of up to 67,108,864 bytes comes to.
use Rattle.std.specs.Prelude.{ℕ, ◌+◌, ◌-◌, ◌^◌, ◌++◌, min, Bool, List, [], ◌∷◌, map, length, codes, decimal, Option, Some, None, if◌then◌else◌}
use Rattle.std.specs.Str.{bytes_eq}
use Rattle.std.specs.Borrow.{Bor}
use Rattle.netlist_import.specs.declared.value.Json.{Json, fold-Json}
use Rattle.netlist_import.specs.declared.value.Json.TheOpen as layer

-- the number after this one
abbrev pub later : ℕ → ℕ
later n = min (n + 1) (2 ^ 32 - 1)

mutual
  pub data Placed : Type 0 where
    null : ℕ → Placed
    boolean : ℕ → Bool → Placed
    number : ℕ → List ℕ → Placed
    text : ℕ → List ℕ → Placed
    array : ℕ → Items → Placed
    object : ℕ → Members → Placed

  pub data Items : Type 0 where
    no_items : Items
    item : Placed → Items → Items

  pub data Members : Type 0 where
    no_members : Members
    member : List ℕ → Placed → Members → Members

-- a member's name and value
abbrev pub Member : Type 0
Member = List ℕ × Placed

-- ---- items and members as lists

abbrev pub items_of : List Placed → Items
items_of [] = no_items
items_of (v ∷ vs) = item v (items_of vs)

abbrev pub members_of : List Member → Members
members_of [] = no_members
members_of (m ∷ ms) = member m.0 m.1 (members_of ms)

abbrev pub listed_items : Items → List Placed
listed_items no_items = []
listed_items (item v vs) = v ∷ listed_items vs

abbrev pub listed_members : Members → List Member
listed_members no_members = []
listed_members (member key v ms) = (key, v) ∷ listed_members ms

-- ---- parts

-- the number of the first token
abbrev pub token_of : Placed → ℕ
token_of (null n) = n
token_of (boolean n b) = n
token_of (number n digits) = n
token_of (text n bytes) = n
token_of (array n vs) = n
token_of (object n ms) = n

abbrev pub array_of : Placed → Option (List Placed)
array_of (null n) = None
array_of (boolean n b) = None
array_of (number n digits) = None
array_of (text n bytes) = None
array_of (array n vs) = Some (listed_items vs)
array_of (object n ms) = None

abbrev pub object_of : Placed → Option (List Member)
object_of (null n) = None
object_of (boolean n b) = None
object_of (number n digits) = None
object_of (text n bytes) = None
object_of (array n vs) = None
object_of (object n ms) = Some (listed_members ms)

abbrev pub text_of : Placed → Option (List ℕ)
text_of (null n) = None
text_of (boolean n b) = None
text_of (number n digits) = None
text_of (text n bytes) = Some bytes
text_of (array n vs) = None
text_of (object n ms) = None

abbrev pub number_of : Placed → Option (List ℕ)
number_of (null n) = None
number_of (boolean n b) = None
number_of (number n digits) = Some digits
number_of (text n bytes) = None
number_of (array n vs) = None
number_of (object n ms) = None

-- the value of the first member of a name
unfoldable pub field : List ℕ → List Member → Option Placed
field name [] = None
field name (m ∷ ms) = if bytes_eq m.0 name then Some m.1 else field name ms

-- ---- the text of a value

-- a text with its length before it, so that no two run into one another
abbrev pub measured : List ℕ → List ℕ
measured bytes = decimal (length bytes) ++ codes ":" ++ bytes

-- Values that differ, but for their places, have different texts.
abbrev mutual
  pub spelled : Placed → List ℕ
  spelled (null n) = codes "n"
  spelled (boolean n b) = if b then codes "t" else codes "f"
  spelled (number n digits) = codes "#" ++ measured digits
  spelled (text n bytes) = codes "\"" ++ measured bytes
  spelled (array n vs) = codes "[" ++ spelled_items vs
  spelled (object n ms) = codes "{" ++ spelled_members ms

  pub spelled_items : Items → List ℕ
  spelled_items no_items = codes "]"
  spelled_items (item v vs) = spelled v ++ spelled_items vs

  pub spelled_members : Members → List ℕ
  spelled_members no_members = codes "}"
  spelled_members (member key v ms) = (measured key ++ spelled v) ++ spelled_members ms

abbrev pub member_spelled : Member → List ℕ
member_spelled m = measured m.0 ++ spelled m.1

-- ---- what the values of the program hold

abbrev pub member_seen : Bor (List ℕ) × Placed → Member
member_seen m = (m.0.now, m.1)

-- one level, with each value inside already seen
abbrev pub placed_layer : layer.Json-F Placed → Placed
placed_layer (layer.Null n) = null n
placed_layer (layer.Bool n b) = boolean n b
placed_layer (layer.Number n digits) = number n digits.now
placed_layer (layer.Text n bytes) = text n bytes.now
placed_layer (layer.Array n v) = array n (items_of v.items)
placed_layer (layer.Object n v) = object n (members_of (map member_seen v.items))

abbrev pub placed_of : Json → Placed
placed_of = fold-Json Placed placed_layer

abbrev pub member_of : Bor (List ℕ) × Json → Member
member_of m = (m.0.now, placed_of m.1)
