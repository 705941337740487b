-- What a register or latch makes of a value for each of its listening pins: the cover of its image.
use Rattle.std.specs.Prelude.{ℕ, ◌+◌, Bool, List, [], ◌∷◌, if◌then◌else◌}
use Rattle.step_values.specs.declared.value.Value.{Value}
use Rattle.step_values.specs.declared.value.Value.TheVariants.{U}
use Rattle.step_values.specs.Image.{reg_of, reg_rs_of, latch_of, latch_rs_of}
use Rattle.element_kinds.specs.declared.kind.Kind.{Kind}
use Rattle.element_kinds.specs.declared.kind.Kind.TheVariants.{Reg, RegRs, Latch, LatchRs}
use Rattle.element_kinds.specs.Kinds.{by_form, keeps_bit, listens}

-- registers and latches
abbrev pub is_storage : Kind → Bool
is_storage kind = by_form keeps_bit kind

-- what stands at the listening pins, of what stands at the pins from a place on
abbrev pub listening_from : {A : Type 0} → Kind → ℕ → List A → List A
listening_from kind place [] = []
listening_from kind place (a ∷ more) =
    if listens kind place then a ∷ listening_from kind (place + 1) more
    else listening_from kind (place + 1) more

-- a register's input does not count: it counts only when the clock rises, and then it may be
-- either
abbrev pub listening : {A : Type 0} → Kind → List A → List A
listening kind pins = listening_from kind 0 pins

abbrev pub of_clock : (Value → Value) → List Value → Value
of_clock value (clock ∷ []) = value clock
of_clock value found = U

abbrev pub of_two : (Value → Value → Value) → List Value → Value
of_two value (a ∷ b ∷ []) = value a b
of_two value found = U

abbrev pub of_three : (Value → Value → Value → Value) → List Value → Value
of_three value (a ∷ b ∷ c ∷ []) = value a b c
of_three value found = U

abbrev pub of_four : (Value → Value → Value → Value → Value) → List Value → Value
of_four value (a ∷ b ∷ c ∷ d ∷ []) = value a b c d
of_four value found = U

-- the clock; the clock, set and reset; the enable and the input; and these with set and reset
abbrev pub storage_value : Kind → List Value → Value
storage_value Reg found = of_clock reg_of found
storage_value RegRs found = of_three reg_rs_of found
storage_value Latch found = of_two latch_of found
storage_value LatchRs found = of_four latch_rs_of found
storage_value kind found = U
