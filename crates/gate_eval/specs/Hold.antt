-- The mark `!H` at a pin of an AND or OR: while this pin lets the others through, they are to stay
-- as they are.
use Rattle.std.specs.Prelude.{◌≡◌, ◌≢◌, ℕ, zero, suc, ◌+◌, ◌-◌, ◌<◌, ◌≤◌, ◌==◌, ◌⊎◌, Bool, true, false, not, ◌&&◌, List, length, slice_index_or, Option, Some, None, if◌then◌else◌}
use Rattle.std.specs.Option.{option_or, option_map}
use Rattle.scald_base.specs.Signal.{Signal}
use Rattle.step_values.specs.declared.value.Value.{Value}
use Rattle.step_values.specs.declared.value.Value.TheVariants.{Zero, One, U}
use Rattle.step_values.specs.Steps.{is_quiet}
use Rattle.step_values.specs.Cell.{values, same}
use Rattle.skew_algebra.specs.Wave.{Wave}
use Rattle.element_kinds.specs.declared.kind.Kind.{Kind}
use Rattle.element_kinds.specs.Kinds.{closes_of}
use Rattle.element_kinds.specs.Equation.{nth_signal}
use Rattle.gate_eval.specs.Meeting.{folds_in, period_of}
use Rattle.gate_eval.specs.Permitted.{AllPermit}

-- the first that there is, of n from i on
abbrev pub first_some : {A : Type 0} → (ℕ → Option A) → ℕ → ℕ → Option A
first_some f zero i = None
first_some f (suc n) i = option_or (f i) (first_some f n (i + 1))

abbrev pub value_of_pin : List Value → ℕ → Value
value_of_pin found pin = slice_index_or found pin U

-- the value of a pin that stays at this bit
abbrev pub staying : Bool → Value
staying false = Zero
staying true = One

-- the pin stays at the bit that settles the output, if there is one
abbrev pub is_settled : Option Bool → Value → Bool
is_settled None v = false
is_settled (Some bit) v = same v (staying bit)

-- at this value of a pin the others do not matter: 0 at an AND, 1 at an OR
abbrev pub is_closed : Kind → Value → Bool
is_closed kind v = is_settled (closes_of kind) v

-- a pin other than the marked one that may change
abbrev pub moves_beside : ℕ → List Value → ℕ → Bool
moves_beside marked folds pin = not (pin == marked) && not (is_quiet (value_of_pin folds pin))

-- the first such pin
abbrev pub mover_beside : ℕ → List Value → Option ℕ
mover_beside marked folds =
    first_some (λ pin. if moves_beside marked folds pin then Some pin else None) (length folds) 0

-- by the folds of a slot: the first pin that may change while the marked one lets it through
abbrev pub disturber : Kind → ℕ → List Value → Option ℕ
disturber kind marked folds =
    if is_closed kind (value_of_pin folds marked) then None else mover_beside marked folds

-- the first slot that has such a pin, and the first such pin there
abbrev pub hazard_beside : Kind → List (Wave Value) → ℕ → Option (ℕ × ℕ)
hazard_beside kind waves marked =
    first_some (λ slot.
    option_map (λ pin. (slot, pin)) (disturber kind marked (folds_in values waves slot)))
    (period_of waves) 0

-- the same, if a pin is marked
unfoldable pub hazard : Kind → List (Wave Value) → Option ℕ → Option (ℕ × ℕ)
hazard kind waves None = None
hazard kind waves (Some marked) = hazard_beside kind waves marked

abbrev pub settling_bit : Option Bool → Bool
settling_bit None = false
settling_bit (Some bit) = bit

-- the bit of a pin at which the others do not matter, of a kind that has one
abbrev pub closed_bit : Kind → Bool
closed_bit kind = settling_bit (closes_of kind)

-- At a tick the marked pin stays at this bit, or no other pin steps.
abbrev pub IsHeld : Bool → ℕ → List Signal → ℕ → Type 0
IsHeld closed marked signals t =
    ((nth_signal signals marked (t - 1) ≡ closed) × (nth_signal signals marked t ≡ closed))
    ⊎ ((pin : ℕ) → pin < length signals → pin ≢ marked →
    nth_signal signals pin (t - 1) ≡ nth_signal signals pin t)

-- The pins' signals keep the rule of the mark at each tick from v on, if their waves permit them
-- from there on.
abbrev pub KeepsMark : Kind → List (Wave Value) → Option ℕ → Type 0
KeepsMark kind waves mark =
    (marked n v t : ℕ) (signals : List Signal) → mark ≡ Some marked →
    AllPermit values waves n signals v → 1 ≤ t → v ≤ t → t < n →
    IsHeld (closed_bit kind) marked signals t
