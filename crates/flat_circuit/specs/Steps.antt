-- What the steps of a builder's end say to each other.
use Rattle.std.specs.Prelude.{◌≡◌, ◌⊎◌, ℕ, ◌+◌, ◌-◌, ◌<◌, Bool, true, false, ◌&&◌, ◌==◌, if◌then◌else◌, List, [], ◌∷◌, ◌++◌, length, map, drop, slice_get, slice_set, slice_index_or, Option, Some, None, is_some, MatchOption, option_to_list}
use Rattle.std.specs.List.{All}
use Rattle.scald_base.specs.Time.{Bounds}
use Rattle.scald_base.specs.declared.assertion.AssertSpec.{AssertSpec}
use Rattle.scald_base.specs.declared.refusal.RefusalKind.TheVariants.{TwoDrivers, ZeroLoop}
use Rattle.scald_base.specs.declared.refusal.Stop.{Stop}
use Rattle.scald_base.specs.declared.refusal.Stop.TheVariants.{Refused, NoMemory}
use Rattle.vector_names.specs.declared.bits.Target.{Target}
use Rattle.vector_names.specs.declared.bits.Target.TheVariants.{Net as OnNet, Constant}
use Rattle.element_kinds.specs.declared.kind.Kind.{Kind}
use Rattle.flat_circuit.specs.declared.instance.Pin.{Pin}
use Rattle.flat_circuit.specs.declared.instance.Instance.{Instance}
use Rattle.flat_circuit.specs.declared.net.Net.{Net}
use Rattle.flat_circuit.specs.declared.search.Node.{Node}
use Rattle.element_kinds.specs.Kinds.{listens}
use Rattle.flat_circuit.specs.Name.{Name, name_at}
use Rattle.flat_circuit.specs.Instances.{out_at, pins_at, least_delay_at, is_on, reads, readers_of, numbers_from, IsTaken}
use Rattle.flat_circuit.specs.Loop.{IsLooped, HoldsOfNone}
use Rattle.flat_circuit.specs.Circuit.{net_name, net_names}
use Rattle.flat_circuit.specs.Builder.{Asserted, spec_of, bounds_at, IsFirst}

-- ---- the table of drivers

abbrev pub entry : List (Option ℕ) → ℕ → Option ℕ
entry ds i = slice_index_or ds i None

-- the drivers among the first k instances, none of whose outputs is taken
pub record DrivenTo (js : List Instance) (n k : ℕ) (ds : List (Option ℕ)) : Type 0 where
  pub long : length ds ≡ n
  pub is : (i d : ℕ) → entry ds i ≡ Some d → (d < k) × (out_at js d ≡ Some (OnNet i))
  pub of : (i d : ℕ) → d < k → out_at js d ≡ Some (OnNet i) → entry ds i ≡ Some d
  pub steady : (d : ℕ) (b : Bool) → d < k → out_at js d ≡ Some (Constant b) → ⊥

-- whether instance k took its output
abbrev pub Took : List (Option ℕ) → List (Option ℕ) → ℕ → Option Target → Bool → Type 0
Took ds ds' k None r = (r ≡ true) × (ds' ≡ ds)
Took ds ds' k (Some (Constant b)) r = r ≡ false
Took ds ds' k (Some (OnNet i)) r =
    MatchOption (entry ds i) ((r ≡ true) × (ds' ≡ slice_set ds i (Some k))) (λ _. r ≡ false)

-- where the drivers stop
abbrev pub StopsAtTaken : List Instance → Stop → Type 0
StopsAtTaken js NoMemory = Unit {0}
StopsAtTaken js (Refused r) = (r.kind ≡ TwoDrivers) × IsFirst (IsTaken js) js r.place

-- ---- what passes on at once

-- the driver of what a pin is on, if it passes on without delay
abbrev pub if_at_once : List Instance → Option ℕ → Option ℕ
if_at_once js None = None
if_at_once js (Some d) = if least_delay_at js d == 0 then Some d else None

abbrev pub quick_driver : List Bounds → List (Option ℕ) → List Instance → Target → Option ℕ
quick_driver ws ds js (Constant b) = None
quick_driver ws ds js (OnNet i) =
    if (bounds_at ws i).min == 0 then if_at_once js (entry ds i) else None

abbrev pub quick_list : List Bounds → List (Option ℕ) → List Instance → List Pin → List ℕ
quick_list ws ds js [] = []
quick_list ws ds js (p ∷ ps) =
    option_to_list (quick_driver ws ds js p.target) ++ quick_list ws ds js ps

-- those that pass on to instance k at once
abbrev pub quick_feeders : List Bounds → List (Option ℕ) → List Instance → ℕ → List ℕ
quick_feeders ws ds js k = if is_some (out_at js k) then quick_list ws ds js (pins_at js k) else []

abbrev pub node_feeders : Node → List ℕ
node_feeders n = n.feeders.items

-- where the search for loops stops
abbrev pub StopsAtLoop : List Bounds → List Instance → Stop → Type 0
StopsAtLoop ws js NoMemory = Unit {0}
StopsAtLoop ws js (Refused r) =
    (r.kind ≡ ZeroLoop) × IsFirst (IsLooped (bounds_at ws) js) js r.place

-- ---- rows of readers

abbrev pub Row : Type 0
Row = List ℕ

abbrev pub row_at : List Row → ℕ → Row
row_at rows i = slice_index_or rows i []

abbrev pub is_it : Option ℕ → ℕ → Bool
is_it None k = false
is_it (Some x) k = x == k

abbrev pub last_is : Row → ℕ → Bool
last_is row k = is_it (slice_get row (length row - 1)) k

-- the row with k, once
abbrev pub row_noted : Row → ℕ → Row
row_noted row k = if last_is row k then row else row ++ k ∷ []

-- what the pins of instance k, from a place on, do to the row of net i
abbrev pub pins_noted : Kind → ℕ → ℕ → ℕ → List Pin → Row → Row
pins_noted kind i k place [] row = row
pins_noted kind i k place (p ∷ ps) row =
    pins_noted kind i k (place + 1) ps
    (if listens kind place && is_on i p.target then row_noted row k else row)

-- the same, if the instance has an output
abbrev pub noted_by : Instance → ℕ → ℕ → Row → Row
noted_by j i k row = if is_some j.out then pins_noted j.kind i k 0 j.pins row else row

-- rows of the first k instances
pub record RowsTo (js : List Instance) (n k : ℕ) (rows : List Row) : Type 0 where
  pub long : length rows ≡ n
  pub below : (i : ℕ) → All (λ r. r < k) (row_at rows i)
  pub noted : (i : ℕ) → i < n → row_at rows i ++ numbers_from (reads i) k (drop k js)
      ≡ readers_of js i

-- ---- the nets

abbrev pub specs_of : List Asserted → List Name → List AssertSpec
specs_of given names = map (λ (n : Name). spec_of given n.text) names

-- nets of these names, bounds, assertions and drivers
pub record AreNets (names : List Name) (ws : List Bounds) (specs : List AssertSpec)
    (ds : List (Option ℕ)) (nets : List Net) : Type 0 where
  pub names_are : net_names nets ≡ names
  pub wires_are : map (λ (n : Net). n.wire) nets ≡ ws
  pub specs_are : map (λ (n : Net). n.spec) nets ≡ specs
  pub drivers_are : map (λ (n : Net). n.driver) nets ≡ ds

-- the net of one number
pub record IsNet (names : List Name) (ws : List Bounds) (given : List Asserted) (driver : Option ℕ)
    (i : ℕ) (n : Net) : Type 0 where
  pub name_is : net_name n ≡ name_at names i
  pub wire_is : n.wire ≡ bounds_at ws i
  pub spec_is : n.spec ≡ spec_of given n.name
  pub driver_is : n.driver ≡ driver

-- ---- both rules, and the nets where they hold

pub record AreRuled (names : List Name) (ws : List Bounds) (specs : List AssertSpec)
    (js : List Instance) (nets : List Net) : Type 0 where
  pub drivers : List (Option ℕ)
  pub driven : DrivenTo js (length names) (length js) drivers
  pub none_looped : HoldsOfNone (IsLooped (bounds_at ws) js) js
  pub are : AreNets names ws specs drivers nets

-- at the first output that is taken, or if none is, at the first instance that a loop reaches
abbrev pub StopsAtRule : List Bounds → List Instance → Stop → Type 0
StopsAtRule ws js stop =
    StopsAtTaken js stop ⊎ (HoldsOfNone (IsTaken js) js × StopsAtLoop ws js stop)
