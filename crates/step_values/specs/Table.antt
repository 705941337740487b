-- Tables of values: an entry for each choice of the arguments, in the order 0, 1, S, C, R, F, U,
-- the last argument going round first.
use Rattle.std.specs.Prelude.{◌≡◌, ℕ, ◌+◌, ◌*◌, List, slice_index_or}
use Rattle.step_values.specs.declared.value.Value.{Value}
use Rattle.step_values.specs.declared.value.Value.TheVariants.{Zero, One, S, C, R, F, U}

-- a value's place in that order
abbrev pub number : Value → ℕ
number Zero = 0
number One = 1
number S = 2
number C = 3
number R = 4
number F = 5
number U = 6

abbrev pub index2 : Value → Value → ℕ
index2 a b = 7 * number a + number b

abbrev pub index3 : Value → Value → Value → ℕ
index3 a b c = 49 * number a + index2 b c

abbrev pub index4 : Value → Value → Value → Value → ℕ
index4 a b c d = 343 * number a + index3 b c d

-- what a table of so many arguments has for them
abbrev pub entry2 : List Value → Value → Value → Value
entry2 entries a b = slice_index_or entries (index2 a b) Zero

abbrev pub entry3 : List Value → Value → Value → Value → Value
entry3 entries a b c = slice_index_or entries (index3 a b c) Zero

abbrev pub entry4 : List Value → Value → Value → Value → Value → Value
entry4 entries a b c d = slice_index_or entries (index4 a b c d) Zero

-- the table has what the function gives of each choice of arguments
abbrev pub IsTable2 : (Value → Value → Value) → List Value → Type 0
IsTable2 f entries = (a b : Value) → entry2 entries a b ≡ f a b

abbrev pub IsTable3 : (Value → Value → Value → Value) → List Value → Type 0
IsTable3 f entries = (a b c : Value) → entry3 entries a b c ≡ f a b c

abbrev pub IsTable4 : (Value → Value → Value → Value → Value) → List Value → Type 0
IsTable4 f entries = (a b c d : Value) → entry4 entries a b c d ≡ f a b c d
