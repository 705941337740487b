-- The numbers of a range's bits, and the bits of connections.
use Rattle.std.specs.Prelude.{◌≡◌, ℕ, ◌+◌, ◌-◌, not, ◌==◌, nat_le, if◌then◌else◌, List, [], ◌∷◌, ◌++◌, length, reverse, replicate, Option, Some, None, ℤ, pos, negsuc}
use Rattle.std.specs.List.{range_with_len}
use Rattle.vector_names.specs.declared.bits.BitRef.{BitRef}
use Rattle.vector_names.specs.declared.fault.VectorFault.{VectorFault}
use Rattle.vector_names.specs.declared.fault.VectorFault.TheVariants.{BadRange, Width, NoMemory}

-- the greatest number of a bit
abbrev pub greatest_number : ℕ
greatest_number = 65535

-- the most bits that a range or a connection may have
abbrev pub widest : ℕ
widest = 256

-- from one number to another, upwards or downwards, both among them
abbrev pub from_to : ℕ → ℕ → List ℕ
from_to first last =
    if nat_le first last then range_with_len first (last - first + 1)
    else reverse (range_with_len last (first - last + 1))

-- a number as that of a bit, if it is one
abbrev pub bit_number : ℤ → Option ℕ
bit_number (pos n) = if nat_le n greatest_number then Some n else None
bit_number (negsuc n) = None

-- the numbers between two, if there are two and they are not too many
abbrev pub range_of : Option ℕ → Option ℕ → Option (List ℕ)
range_of (Some first) (Some last) =
    if nat_le (length (from_to first last)) widest then Some (from_to first last) else None
range_of _ _ = None

-- The bits of a range, if it is one.
abbrev pub bits_of : ℤ → ℤ → Option (List ℕ)
bits_of first last = range_of (bit_number first) (bit_number last)

-- the one fault if there is no range
abbrev pub IsFaultOf : Option (List ℕ) → VectorFault → Type 0
IsFaultOf range BadRange = range ≡ None
IsFaultOf range Width = ⊥
IsFaultOf range NoMemory = Unit {0}

abbrev pub IsRangeFault : ℤ → ℤ → VectorFault → Type 0
IsRangeFault first last fault = IsFaultOf (bits_of first last) fault

-- The bits of one and then those of the other, if they are not too many.
abbrev pub concat : List BitRef → List BitRef → Option (List BitRef)
concat a b = if nat_le (length (a ++ b)) widest then Some (a ++ b) else None

abbrev pub IsJoinFault : List BitRef → List BitRef → VectorFault → Type 0
IsJoinFault a b Width = concat a b ≡ None
IsJoinFault a b BadRange = ⊥
IsJoinFault a b NoMemory = Unit {0}

-- So many bits: these, if they are so many, and one bit again and again.
abbrev pub repeated : List BitRef → ℕ → Option (List BitRef)
repeated (b ∷ []) width = Some (replicate width b)
repeated _ width = None

abbrev pub spread : List BitRef → ℕ → Option (List BitRef)
spread a width = if length a == width then Some a else repeated a width

abbrev pub IsSpreadFault : List BitRef → ℕ → VectorFault → Type 0
IsSpreadFault a width Width = spread a width ≡ None
IsSpreadFault a width BadRange = ⊥
IsSpreadFault a width NoMemory = Unit {0}

-- the complement of a bit
abbrev pub complemented : BitRef → BitRef
complemented b = record b { inverted = not b.inverted }
