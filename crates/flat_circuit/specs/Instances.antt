-- Lists of instances: what each drives and reads, and how many there are.
use Rattle.std.specs.Prelude.{◌≡◌, ℕ, ◌+◌, ◌<◌, ◌≤◌, ◌==◌, Bool, false, not, ◌&&◌, ◌||◌, if◌then◌else◌, List, [], ◌∷◌, length, count_by, sum_by, slice_get, Option, Some, None, is_some}
use Rattle.std.specs.List.{All}
use Rattle.scald_base.specs.Time.{Header}
use Rattle.vector_names.specs.declared.bits.Target.{Target}
use Rattle.vector_names.specs.declared.bits.Target.TheVariants.{Net as OnNet, Constant}
use Rattle.element_kinds.specs.declared.kind.Kind.{Kind}
use Rattle.flat_circuit.specs.declared.instance.Pin.{Pin}
use Rattle.flat_circuit.specs.declared.instance.Instance.{Instance}
use Rattle.element_kinds.specs.Kinds.{has_output, listens}
use Rattle.flat_circuit.specs.Kind.{PinsFit, LimitsFit}
use Rattle.flat_circuit.specs.Split.{SplitFits}

-- ---- one instance between so many nets

abbrev pub TargetExists : ℕ → Target → Type 0
TargetExists nets (OnNet i) = i < nets
TargetExists nets (Constant b) = Unit {0}

abbrev pub PinExists : ℕ → Pin → Type 0
PinExists nets p = TargetExists nets p.target

abbrev pub OutExists : ℕ → Option Target → Type 0
OutExists nets None = Unit {0}
OutExists nets (Some target) = TargetExists nets target

-- the nets of its pins and of its output exist
pub record InstanceExists (nets : ℕ) (j : Instance) : Type 0 where
  pub reads : All (PinExists nets) j.pins
  pub drives : OutExists nets j.out

-- Its nets exist, its pins, its limits and its two delays are those of its kind, and it has an
-- output exactly if its kind has one.
pub record InstanceFits (h : Header) (nets : ℕ) (j : Instance) : Type 0 where
  pub pins : PinsFit j.kind j.pins
  pub has_out : is_some j.out ≡ has_output j.kind
  pub lim : LimitsFit h j.kind j.limits
  pub split : SplitFits j.kind j.delay j.split
  pub exists : InstanceExists nets j

-- ---- parts of the instance of a number

abbrev pub out_of : Option Instance → Option Target
out_of None = None
out_of (Some j) = j.out

abbrev pub out_at : List Instance → ℕ → Option Target
out_at js k = out_of (slice_get js k)

abbrev pub pins_of : Option Instance → List Pin
pins_of None = []
pins_of (Some j) = j.pins

abbrev pub pins_at : List Instance → ℕ → List Pin
pins_at js k = pins_of (slice_get js k)

-- With two delays this is the least of both, by SplitFits.
abbrev pub least_delay_of : Option Instance → ℕ
least_delay_of None = 0
least_delay_of (Some j) = j.delay.min

abbrev pub least_delay_at : List Instance → ℕ → ℕ
least_delay_at js k = least_delay_of (slice_get js k)

-- ---- how many

abbrev pub outputs : List Instance → ℕ
outputs js = count_by (λ (j : Instance). has_output j.kind) js

abbrev pub checkers : List Instance → ℕ
checkers js = count_by (λ (j : Instance). not (has_output j.kind)) js

abbrev pub all_pins : List Instance → ℕ
all_pins js = sum_by (λ (j : Instance). length j.pins) js

-- the most nets, and the most bits of elements and of checkers
abbrev pub most_bits : ℕ
most_bits = 65536

-- the most pins
abbrev pub most_pins : ℕ
most_pins = 1048576

-- not too many of any
pub record AreFew (js : List Instance) : Type 0 where
  pub of_outputs : outputs js ≤ most_bits
  pub of_checkers : checkers js ≤ most_bits
  pub of_pins : all_pins js ≤ most_pins

-- the numbers are those of outputs, checkers and pins
pub record AreCounts (js : List Instance) (of_outputs of_checkers of_pins : ℕ) : Type 0 where
  pub outputs_are : of_outputs ≡ outputs js
  pub checkers_are : of_checkers ≡ checkers js
  pub pins_are : of_pins ≡ all_pins js

-- ---- which instances read a net

abbrev pub is_on : ℕ → Target → Bool
is_on i (OnNet n) = n == i
is_on i (Constant b) = false

-- whether a pin listens on the net, of pins whose places count from one on
abbrev pub any_listens : Kind → ℕ → ℕ → List Pin → Bool
any_listens k i place [] = false
any_listens k i place (p ∷ ps) =
    (listens k place && is_on i p.target) || any_listens k i (place + 1) ps

-- it has an output, and a pin that listens on the net
abbrev pub reads : ℕ → Instance → Bool
reads i j = is_some j.out && any_listens j.kind i 0 j.pins

-- the numbers, from one on, of those that pass
abbrev pub numbers_from : {X : Type 0} → (X → Bool) → ℕ → List X → List ℕ
numbers_from test k [] = []
numbers_from test k (x ∷ xs) =
    if test x then k ∷ numbers_from test (k + 1) xs else numbers_from test (k + 1) xs

-- the instances that read a net, each once, ascending
abbrev pub readers_of : List Instance → ℕ → List ℕ
readers_of js i = numbers_from (reads i) 0 js

-- ---- drivers

-- Each net's driver is the one instance whose output it is, and no output is a constant.
pub record AreDrivers (js : List Instance) (driver_of : ℕ → Option ℕ) : Type 0 where
  pub is : (i k : ℕ) → driver_of i ≡ Some k → out_at js k ≡ Some (OnNet i)
  pub of : (i k : ℕ) → out_at js k ≡ Some (OnNet i) → driver_of i ≡ Some k
  pub steady : (k : ℕ) (b : Bool) → out_at js k ≡ Some (Constant b) → ⊥

-- Instance k takes a constant, or a net that an earlier one drives.
pub data IsTaken (js : List Instance) (k : ℕ) : Type 0 where
  Is_constant : {b : Bool} → out_at js k ≡ Some (Constant b) → IsTaken js k
  Is_driven : {i d : ℕ} → d < k → out_at js d ≡ Some (OnNet i) → out_at js k ≡ Some (OnNet i) →
      IsTaken js k
