-- Which value the tokens of a text are, or the number of the first token with which they go wrong:
-- no value goes on with it, it opens an array or an object inside of 64 others, or it is a name
-- that its object has already.
use Rattle.std.specs.Prelude.{ℕ, Bool, true, false, ◌&&◌, nat_lt, ◌≡◌, ⊤, List, [], ◌∷◌, ◌++◌, length, map, reverse, Option, Some, None, option_map, Result, Ok, Err, if◌then◌else◌}
use Rattle.std.specs.List.{list_any}
use Rattle.std.specs.Str.{bytes_eq}
use Rattle.std.specs.Borrow.{Bor}
use Rattle.json.specs.Token.{Token, begin_object, end_object, begin_array, end_array, key, string, number, boolean, null, bad}
use Rattle.json.specs.Lex.{tokens}
use Rattle.netlist_import.specs.Placed as placed
use Rattle.netlist_import.specs.Placed.{Placed, Member, items_of, members_of, later, placed_of, member_of}
use Rattle.netlist_import.specs.declared.parser.Open as written
use Rattle.netlist_import.specs.declared.parser.Open.TheVariants as written_open
use Rattle.netlist_import.specs.declared.parser.Object.{Object}
use Rattle.netlist_import.specs.declared.parser.Parser.{Parser}
use Rattle.netlist_import.specs.declared.parser.ParseEnd.{ParseEnd}
use Rattle.netlist_import.specs.declared.value.Json.{Json}

-- What is open: the text itself with its one value, an array with its items so far, or an object
-- with the names so far, the members so far, and the name whose value comes next.
pub data Open : Type 0 where
  whole : Option Placed → Open
  in_array : ℕ → List Placed → Open
  in_object : ℕ → List (List ℕ) → List Member → Option (List ℕ) → Open

-- the innermost that is open, and those around it from the inside out
pub record State : Type 0 where
  pub inner : Open
  pub outer : List Open

-- before the first token
abbrev pub beginning : State
beginning = record { inner = whole None; outer = [] }

-- ---- a value

-- a value may come next
abbrev pub wants_value : Open → Bool
wants_value (whole None) = true
wants_value (whole (Some v)) = false
wants_value (in_array n vs) = true
wants_value (in_object n names ms None) = false
wants_value (in_object n names ms (Some name)) = true

-- with this value, if one may come
abbrev pub with_value : Placed → Open → Open
with_value v (whole one) = whole (Some v)
with_value v (in_array n vs) = in_array n (vs ++ v ∷ [])
with_value v (in_object n names ms None) = in_object n names ms None
with_value v (in_object n names ms (Some name)) = in_object n names (ms ++ (name, v) ∷ []) None

abbrev pub valued : Placed → State → Option State
valued v s = if wants_value s.inner then Some (record s { inner = with_value v s.inner }) else None

-- ---- arrays and objects

-- the most arrays and objects that may be open
abbrev pub deepest : ℕ
deepest = 64

abbrev pub opened : Open → State → Option State
opened o s =
    if wants_value s.inner && nat_lt (length s.outer) deepest
    then Some (record { inner = o; outer = s.inner ∷ s.outer })
    else None

-- the value that is whole if this bracket closes it
abbrev pub array_in : Open → Option Placed
array_in (whole one) = None
array_in (in_array n vs) = Some (placed.array n (items_of vs))
array_in (in_object n names ms next) = None

abbrev pub object_in : Open → Option Placed
object_in (whole one) = None
object_in (in_array n vs) = None
object_in (in_object n names ms None) = Some (placed.object n (members_of ms))
object_in (in_object n names ms (Some name)) = None

abbrev pub closed_in : Option Placed → List Open → Option State
closed_in None outer = None
closed_in (Some v) [] = None
closed_in (Some v) (o ∷ outer) = Some (record { inner = with_value v o; outer = outer })

abbrev pub with_name : List ℕ → Open → Option Open
with_name name (whole one) = None
with_name name (in_array n vs) = None
with_name name (in_object n names ms (Some other)) = None
with_name name (in_object n names ms None) =
    if list_any (bytes_eq name) names then None
    else Some (in_object n (names ++ name ∷ []) ms (Some name))

abbrev pub named : List ℕ → State → Option State
named name s = option_map (λ o. record s { inner = o }) (with_name name s.inner)

-- ---- a token, and all of them

-- what is open after the token with this number, or nothing if it goes wrong
abbrev pub step : ℕ → Token → State → Option State
step n begin_object s = opened (in_object n [] [] None) s
step n end_object s = closed_in (object_in s.inner) s.outer
step n begin_array s = opened (in_array n []) s
step n end_array s = closed_in (array_in s.inner) s.outer
step n (key name) s = named name s
step n (string bytes) s = valued (placed.text n bytes) s
step n (number digits) s = valued (placed.number n digits) s
step n (boolean b) s = valued (placed.boolean n b) s
step n null s = valued (placed.null n) s
step n bad s = None

abbrev pub value_in : Open → Option Placed
value_in (whole one) = one
value_in (in_array n vs) = None
value_in (in_object n names ms next) = None

abbrev pub ended : ℕ → Option Placed → Result Placed ℕ
ended n None = Err n
ended n (Some v) = Ok v

abbrev pub go_on : ℕ → (State → Result Placed ℕ) → Option State → Result Placed ℕ
go_on n rest None = Err n
go_on n rest (Some s) = rest s

-- the tokens from the one with this number on
unfoldable pub run : State → ℕ → List Token → Result Placed ℕ
run s n [] = ended n (value_in s.inner)
run s n (t ∷ ts) = go_on n (λ next. run next (later n) ts) (step n t s)

abbrev pub parsed : List ℕ → Result Placed ℕ
parsed text = run beginning 0 (tokens text)

-- ---- what the values of the program hold

abbrev pub texts : List (Bor (List ℕ)) → List (List ℕ)
texts names = map (λ name. name.now) names

abbrev pub object_of : Object → Open
object_of o =
    in_object o.token (texts o.names.keys) (map member_of o.members.items)
    (option_map (λ name. name.now) o.next)

abbrev pub open_of : written.Open → Open
open_of (written_open.Whole one) = whole (option_map placed_of one)
open_of (written_open.Array n vs) = in_array n (map placed_of vs.items)
open_of (written_open.Object o) = object_of o

abbrev pub state_of : Parser → State
state_of p = record { inner = open_of p.inner; outer = reverse (map open_of p.outer.items) }

-- If a token may stand, this is open after it.
abbrev pub Took : {A : Type 0} → Bool → Option A → A → Type 0
Took true may s = may ≡ Some s
Took false may s = may ≡ None

-- the value, or the token that goes wrong, or no memory
abbrev pub Parses : Result Placed ℕ → Result Json ParseEnd → Type 0
Parses is (Ok v) = is ≡ Ok (placed_of v)
Parses is (Err (ParseEnd.Wrong n)) = is ≡ Err n
Parses is (Err ParseEnd.NoMemory) = ⊤
