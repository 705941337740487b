-- What a gate makes of a value for each of its pins: the cover of its image, made in steps of two
-- pins, or of a select and two inputs.
use Rattle.std.specs.Prelude.{List, [], ◌∷◌, fold, slice_index_or}
use Rattle.step_values.specs.declared.value.Value.{Value}
use Rattle.step_values.specs.declared.value.Value.TheVariants.{U}
use Rattle.step_values.specs.Image.{and_of, or_of, xor_of, mux2_of}
use Rattle.element_kinds.specs.declared.kind.Kind.{Kind}
use Rattle.element_kinds.specs.declared.kind.Kind.TheVariants.{Buf, And, Or, Xor, Mux2, Mux4, Mux8, Chg, Reg, RegRs, Latch, LatchRs, SetupHold, RiseFall, MinPulse}

-- two pins at a time, from the left
abbrev pub from_left : (Value → Value → Value) → List Value → Value
from_left pair [] = U
from_left pair (v ∷ vs) = fold pair v vs

-- of two inputs after a select
abbrev pub of_two : (Value → Value → Value → Value) → List Value → Value
of_two mux (s ∷ a ∷ b ∷ []) = mux s a b
of_two mux found = U

-- of four after two selects, the high one first: the low one chooses within each pair
abbrev pub of_four : (Value → Value → Value → Value) → List Value → Value
of_four mux (s1 ∷ s0 ∷ a ∷ b ∷ c ∷ d ∷ []) = mux s1 (mux s0 a b) (mux s0 c d)
of_four mux found = U

-- of eight after three
abbrev pub of_eight : (Value → Value → Value → Value) → List Value → Value
of_eight mux (s2 ∷ s1 ∷ s0 ∷ a ∷ b ∷ c ∷ d ∷ e ∷ f ∷ g ∷ h ∷ []) =
    mux s2 (mux s1 (mux s0 a b) (mux s0 c d)) (mux s1 (mux s0 e f) (mux s0 g h))
of_eight mux found = U

-- the first
abbrev pub passed_on : List Value → Value
passed_on found = slice_index_or found 0 U

abbrev pub gate_value : Kind → List Value → Value
gate_value Buf found = passed_on found
gate_value And found = from_left and_of found
gate_value Or found = from_left or_of found
gate_value Xor found = from_left xor_of found
gate_value Mux2 found = of_two mux2_of found
gate_value Mux4 found = of_four mux2_of found
gate_value Mux8 found = of_eight mux2_of found
gate_value Chg found = U
gate_value Reg found = U
gate_value RegRs found = U
gate_value Latch found = U
gate_value LatchRs found = U
gate_value SetupHold found = U
gate_value RiseFall found = U
gate_value MinPulse found = U
