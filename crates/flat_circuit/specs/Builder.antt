-- What a builder holds, what each call makes of it, and how it ends.
use Rattle.std.specs.Prelude.{◌≡◌, ◌≢◌, ℕ, ◌+◌, ◌<◌, ◌≤◌, ◌==◌, Bool, true, false, not, ◌&&◌, ◌||◌, nat_le, nat_lt, if◌then◌else◌, List, [], ◌∷◌, ◌++◌, length, map, slice_get, slice_index_or, slice_set, Option, Some, None}
use Rattle.std.specs.List.{All, list_any}
use Rattle.std.specs.Str.{bytes_eq}
use Rattle.std.specs.Global.{Vec}
use Rattle.scald_base.specs.Time.{Header, Bounds}
use Rattle.scald_base.specs.Fitting.{Fits}
use Rattle.scald_base.specs.declared.assertion.AssertSpec.{AssertSpec}
use Rattle.scald_base.specs.declared.assertion.AssertSpec.TheVariants.{None as Unasserted}
use Rattle.scald_base.specs.declared.refusal.Place.{Place}
use Rattle.scald_base.specs.declared.refusal.RefusalKind.{RefusalKind}
use Rattle.scald_base.specs.declared.refusal.RefusalKind.TheVariants.{AssertionClash, TooMany, TwoDrivers, ZeroLoop}
use Rattle.scald_base.specs.declared.refusal.Stop.{Stop}
use Rattle.scald_base.specs.declared.refusal.Stop.TheVariants.{Refused, NoMemory}
use Rattle.flat_circuit.specs.declared.net.Net.{Net}
use Rattle.flat_circuit.specs.declared.net_table.NetName.{NetName}
use Rattle.flat_circuit.specs.declared.instance.Instance.{Instance}
use Rattle.element_kinds.specs.Kinds.{has_output}
use Rattle.flat_circuit.specs.Name.{Name, IsNumber, AreDistinct}
use Rattle.flat_circuit.specs.Instances.{InstanceFits, AreFew, outputs, checkers, all_pins, most_bits, most_pins, IsTaken}
use Rattle.flat_circuit.specs.Loop.{IsLooped, HoldsOfNone}
use Rattle.flat_circuit.specs.Circuit.{Circuit, net_names}

-- what the nets of a path and base name assert, all bits of them
pub record Asserted : Type 0 where
  pub text : List ℕ
  pub spec : AssertSpec

-- assertions as pairs of a text and what it asserts
abbrev pub asserted_entries : List (Vec ℕ × AssertSpec) → List Asserted
asserted_entries entries =
    map (λ (p : Vec ℕ × AssertSpec). record { text = p.0.items; spec = p.1 }) entries

-- names in the order of their numbers, and wire bounds in the same order
pub record Nets : Type 0 where
  pub names : List Name
  pub wires : List Bounds

abbrev pub name_of_key : NetName → Name
name_of_key k = record { text = k.text; bit = k.bit }

abbrev pub net_entries : List (NetName × Bounds) → Nets
net_entries entries =
    record {
      names = map (λ (p : NetName × Bounds). name_of_key p.0) entries;
      wires = map (λ (p : NetName × Bounds). p.1) entries;
    }

pub record IsNets (t : Nets) : Type 0 where
  pub distinct : AreDistinct t.names
  pub bounded : length t.wires ≡ length t.names

-- The nets' names and wire bounds stand in the order of their numbers, the assertions in the order
-- in which they were given, and the instances in theirs.
pub record Built : Type 0 where
  pub header : Header
  pub names : List Name
  pub wires : List Bounds
  pub asserted : List Asserted
  pub instances : List Instance

abbrev pub built : Header → Nets → List Asserted → List Instance → Built
built h t given js =
    record { header = h; names = t.names; wires = t.wires; asserted = given; instances = js }

-- the builder as it begins
abbrev pub empty : Header → Built
empty h = record { header = h; names = []; wires = []; asserted = []; instances = [] }

-- ---- nets

abbrev pub is_asserted : AssertSpec → Bool
is_asserted Unasserted = false
is_asserted spec = true

-- what was asserted of a text
abbrev pub spec_of : List Asserted → List ℕ → AssertSpec
spec_of [] text = Unasserted
spec_of (a ∷ rest) text = if bytes_eq text a.text then a.spec else spec_of rest text

-- both are assertions, and not the same one
pub record Differ (spec before : AssertSpec) : Type 0 where
  pub is_one : is_asserted spec ≡ true
  pub was_one : is_asserted before ≡ true
  pub differs : spec ≢ before

-- an assertion that differs from one that was given before, whichever bits were named
abbrev pub Clashes : List Asserted → List ℕ → AssertSpec → Type 0
Clashes given text spec = Differ spec (spec_of given text)

abbrev pub has_text : List Asserted → List ℕ → Bool
has_text given text = list_any (λ (a : Asserted). bytes_eq text a.text) given

-- the assertions with this one, if it is one, and the first of its text
abbrev pub with_asserted : List Asserted → List ℕ → AssertSpec → List Asserted
with_asserted given text spec =
    if is_asserted spec && not (has_text given text)
    then given ++ record { text = text; spec = spec } ∷ [] else given

abbrev pub same_name : Name → Name → Bool
same_name a b = bytes_eq a.text b.text && a.bit == b.bit

abbrev pub has_name : List Name → Name → Bool
has_name names name = list_any (same_name name) names

-- A name gets its number: a new one the next, and the header's wire bounds.
abbrev pub after_number : Built → Name → Built
after_number b name =
    if has_name b.names name then b
    else record b { names = b.names ++ name ∷ []; wires = b.wires ++ b.header.wire ∷ [] }

abbrev pub after_assertion : Built → List ℕ → AssertSpec → Built
after_assertion b text spec = record b { asserted = with_asserted b.asserted text spec }

-- The builder after a net was asked for.
abbrev pub after_net : Built → Name → AssertSpec → Built
after_net b name spec =
    after_assertion (after_number b name) name.text spec

pub record GivesNet (old new : Built) (name : Name) (spec : AssertSpec) (i : ℕ) : Type 0 where
  pub agrees : ¬ (Clashes old.asserted name.text spec)
  pub after : new ≡ after_net old name spec
  pub number : IsNumber new.names name i

-- A clash comes first; then a net is one too many if it is new.
abbrev pub IsNetFault : Built → Name → AssertSpec → RefusalKind → Type 0
IsNetFault b name spec AssertionClash = Clashes b.asserted name.text spec
IsNetFault b name spec TooMany =
    (¬ (Clashes b.asserted name.text spec)) × (has_name b.names name ≡ false)
    × (length b.names ≡ most_bits)
IsNetFault b name spec fault = ⊥

abbrev pub IsNetRefusal : Built → Name → AssertSpec → Place → Stop → Type 0
IsNetRefusal b name spec at NoMemory = Unit {0}
IsNetRefusal b name spec at (Refused r) = (r.place ≡ at) × IsNetFault b name spec r.kind

pub record GivesNumber (old new : Built) (name : Name) (i : ℕ) : Type 0 where
  pub after : new ≡ after_number old name
  pub number : IsNumber new.names name i

abbrev pub IsNumberRefusal : Built → Name → Place → Stop → Type 0
IsNumberRefusal b name at NoMemory = Unit {0}
IsNumberRefusal b name at (Refused r) =
    (r ≡ record { kind = TooMany; place = at }) × (has_name b.names name ≡ false)
    × (length b.names ≡ most_bits)

-- the wire bounds of a net are set, and those that are set last count
abbrev pub after_wire : Built → ℕ → Bounds → Built
after_wire b i w = record b { wires = slice_set b.wires i w }

-- ---- instances

-- one instance more would be too many
abbrev pub is_one_too_many : List Instance → Instance → Bool
is_one_too_many js j =
    (if has_output j.kind then nat_le most_bits (outputs js) else nat_le most_bits (checkers js))
    || nat_lt most_pins (all_pins js + length j.pins)

pub record GivesInstance (old new : Built) (j : Instance) (k : ℕ) : Type 0 where
  pub is_room : is_one_too_many old.instances j ≡ false
  pub after : new ≡ record old { instances = old.instances ++ j ∷ [] }
  pub number : k ≡ length old.instances

abbrev pub IsInstanceRefusal : Built → Instance → Stop → Type 0
IsInstanceRefusal b j NoMemory = Unit {0}
IsInstanceRefusal b j (Refused r) =
    (r ≡ record { kind = TooMany; place = j.place }) × (is_one_too_many b.instances j ≡ true)

-- ---- the end

-- bounds by the numbers of their nets
abbrev pub bounds_at : List Bounds → ℕ → Bounds
bounds_at wires i = slice_index_or wires i (record { min = 0; max = 0 })

-- The circuit that a builder gives, if no output is taken and no instance is reached from a loop
-- without delay: its nets with the bounds that were set last and the assertion of their text, and
-- its instances as they were given.
pub record Stands (b : Built) (c : Circuit) : Type 0 where
  pub head : c.header ≡ b.header
  pub names_are : net_names c.nets ≡ b.names
  pub wires_are : map (λ (n : Net). n.wire) c.nets ≡ b.wires
  pub specs_are : map (λ (n : Net). n.spec) c.nets
      ≡ map (λ (n : Name). spec_of b.asserted n.text) b.names
  pub instances_are : c.instances ≡ b.instances
  pub none_taken : HoldsOfNone (IsTaken b.instances) b.instances
  pub none_looped : HoldsOfNone (IsLooped (bounds_at b.wires) b.instances) b.instances

abbrev pub StandsAt : Option Instance → Place → Type 0
StandsAt None at = ⊥
StandsAt (Some j) at = at ≡ j.place

-- the first instance of which it holds stands at a place
pub record IsFirst (P : ℕ → Type 0) (js : List Instance) (at : Place) : Type 0 where
  pub k : ℕ
  pub below : k < length js
  pub is : P k
  pub first : (m : ℕ) → m < k → P m → ⊥
  pub stands : StandsAt (slice_get js k) at

-- Two drivers come first: at the first instance whose output is a constant or driven already. Then
-- a loop, at the first instance that can be reached from one.
abbrev pub IsRuleBroken : Built → Place → RefusalKind → Type 0
IsRuleBroken b at TwoDrivers = IsFirst (IsTaken b.instances) b.instances at
IsRuleBroken b at ZeroLoop =
    HoldsOfNone (IsTaken b.instances) b.instances
    × IsFirst (IsLooped (bounds_at b.wires) b.instances) b.instances at
IsRuleBroken b at rule = ⊥

abbrev pub IsRefusal : Built → Stop → Type 0
IsRefusal b NoMemory = Unit {0}
IsRefusal b (Refused r) = IsRuleBroken b r.place r.kind

-- What holds of each builder.
pub record IsBuilt (b : Built) : Type 0 where
  pub few_nets : length b.names ≤ most_bits
  pub few : AreFew b.instances
  pub distinct : AreDistinct b.names
  pub bounded : length b.wires ≡ length b.names
  pub real : All (λ (a : Asserted). is_asserted a.spec ≡ true) b.asserted
  pub fit : All (λ (a : Asserted). Fits b.header a.spec) b.asserted
  pub each : All (InstanceFits b.header (length b.names)) b.instances
