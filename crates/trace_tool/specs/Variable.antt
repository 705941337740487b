-- How a dump names a stretch: its code, its reference and its range.
use Rattle.std.specs.Prelude.{ℕ, ◌+◌, ◌-◌, ◌/◌, ◌%◌, ◌==◌, ◌&&◌, ◌||◌, not, nat_le, nat_lt, Bool, false, List, [], ◌∷◌, ◌++◌, map, codes, decimal, if◌then◌else◌}
use Rattle.std.specs.List.{concat, list_all, list_any}
use Rattle.std.specs.Str.{bytes_eq}
use Rattle.std.specs.Ordering.{is_lt, nat_cmp}
use Rattle.std.specs.Cmp.Lexicographic.{slice_cmp}
use Rattle.flat_circuit.specs.Circuit.{Circuit, net_names}
use Rattle.flat_circuit.specs.Name.{name_at}
use Rattle.trace_tool.specs.declared.stretch.Stretch.{Stretch}
use Rattle.trace_tool.specs.Name.{base_of, name_of}

-- ---- codes: the bytes 33 to 126 are digits, the least first, and no code is a front of zeros

abbrev pub code_digit : ℕ → ℕ
code_digit n = 33 + n % 94

abbrev pub later_code : ℕ → List ℕ
later_code n =
    if nat_lt n 94 then code_digit n ∷ [] else code_digit n ∷ code_digit (n / 94 - 1) ∷ []

-- of a number below 94 + 94 * 94 + 94 * 94 * 94
unfoldable pub code_of : ℕ → List ℕ
code_of n =
    if nat_lt n 94 then code_digit n ∷ [] else code_digit n ∷ later_code (n / 94 - 1)

-- ---- references

-- names have no tilde, so one in place of each space tells them apart
abbrev pub word_byte : ℕ → ℕ
word_byte b = if b == 32 then 126 else b

abbrev pub begins_word : ℕ → Bool
begins_word b =
    ((nat_le 65 b && nat_le b 90) || (nat_le 97 b && nat_le b 122)) || (b == 95)

abbrev pub continues_word : ℕ → Bool
continues_word b = (begins_word b || (nat_le 48 b && nat_le b 57)) || (b == 36)

-- letters, digits, `_` and `$`, and no digit and no `$` first
abbrev pub is_simple : List ℕ → Bool
is_simple [] = false
is_simple (b ∷ bs) = begins_word b && list_all continues_word bs

abbrev pub word : List ℕ → List ℕ
word name = map word_byte name

-- all other words have a backslash in front
abbrev pub reference : List ℕ → List ℕ
reference name = (if is_simple name then [] else codes "\\") ++ word name

-- ---- the variable of a stretch

-- the first stretch of its name, and the last
abbrev pub is_first : Circuit → Stretch → Bool
is_first c s = (s.from == 0) || not (bytes_eq (name_of c (s.from - 1)).text (name_of c s.from).text)

abbrev pub is_last : Circuit → Stretch → Bool
is_last c s = not (bytes_eq (name_of c s.to).text (name_of c s.from).text)

-- whether the name at a place comes before a text
abbrev pub precedes : Circuit → ℕ → List ℕ → Bool
precedes c place text = is_lt (slice_cmp nat_cmp (name_of c place).text text)

-- whether a net has this name
abbrev pub is_named : Circuit → List ℕ → Bool
is_named c text = list_any (λ i. bytes_eq (name_at (net_names c.nets) i).text text) c.order

abbrev pub later_name : List ℕ → ℕ → List ℕ
later_name text low = concat (text ∷ codes "_" ∷ decimal low ∷ [])

-- in brackets, which no name has
abbrev pub bracketed : List ℕ → ℕ → List ℕ
bracketed base low = concat (codes "\\" ∷ word base ∷ codes "<" ∷ decimal low ∷ codes ">" ∷ [])

-- The first stretch of a name has the name's base. Of the others the lowest bit follows it: after
-- `_`, or in brackets if a net has that name.
abbrev pub later_reference : Circuit → Stretch → List ℕ
later_reference c s =
    if is_named c (later_name (name_of c s.from).text (name_of c s.from).bit)
    then bracketed (base_of (name_of c s.from).text) (name_of c s.from).bit
    else later_name (reference (base_of (name_of c s.from).text)) (name_of c s.from).bit

abbrev pub stretch_reference : Circuit → Stretch → List ℕ
stretch_reference c s =
    if is_first c s then reference (base_of (name_of c s.from).text) else later_reference c s

-- bit 0 is the only one of its name
abbrev pub is_scalar : Circuit → Stretch → Bool
is_scalar c s = is_last c s && ((name_of c s.from).bit == 0)

abbrev pub one_bit : ℕ → List ℕ
one_bit low = concat (codes " [" ∷ decimal low ∷ codes "]" ∷ [])

-- the highest bit first
abbrev pub more_bits : ℕ → ℕ → List ℕ
more_bits low width =
    concat (codes " [" ∷ decimal (low + width - 1) ∷ codes ":" ∷ decimal low ∷ codes "]" ∷ [])

-- the bits of several; of one if its reference does not say it, and there are others
abbrev pub range_text : Circuit → Stretch → List ℕ
range_text c s =
    if s.to - s.from == 1
    then (if is_first c s && not (is_scalar c s) then one_bit (name_of c s.from).bit else [])
    else more_bits (name_of c s.from).bit (s.to - s.from)

-- the line that declares it
unfoldable pub variable_line : Circuit → Stretch → List ℕ
variable_line c s =
    concat (codes "$var wire " ∷ decimal (s.to - s.from) ∷ codes " " ∷ code_of s.number ∷ codes " "
    ∷ stretch_reference c s ∷ range_text c s ∷ codes " $end\n" ∷ [])
