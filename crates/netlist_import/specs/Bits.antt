-- The bits that stand in a netlist.
use Rattle.std.specs.Prelude.{ℕ, ◌^◌, ◌&&◌, nat_lt, List, [], map, codes, Option, Some, None, if◌then◌else◌}
use Rattle.std.specs.List.{list_all}
use Rattle.std.specs.Option.{unwrap_or}
use Rattle.std.specs.Str.{bytes_eq}
use Rattle.scald_base.specs.Word.{is_digit}
use Rattle.scald_lex.specs.Bytes.{value_of}
use Rattle.netlist_import.specs.Placed.{Placed, array_of, number_of, text_of}
use Rattle.netlist_import.specs.declared.netlist.Bit.{Bit}
use Rattle.netlist_import.specs.declared.netlist.Bit.TheVariants.{Number, Zero, One, Undriven}

-- the number that digits spell, if it is at most 4,294,967,295
unfoldable pub whole : List ℕ → Option ℕ
whole digits =
    if list_all is_digit digits && nat_lt (value_of digits) (2 ^ 32) then Some (value_of digits)
    else None

abbrev pub whole_of : Option (List ℕ) → Option ℕ
whole_of None = None
whole_of (Some digits) = whole digits

-- a constant, or what nothing drives
abbrev pub named_bit : List ℕ → Option Bit
named_bit name =
    if bytes_eq name (codes "0") then Some Zero
    else if bytes_eq name (codes "1") then Some One
    else if bytes_eq name (codes "x") then Some Undriven
    else if bytes_eq name (codes "z") then Some Undriven
    else None

abbrev pub bit_named : Option (List ℕ) → Option Bit
bit_named None = None
bit_named (Some name) = named_bit name

abbrev pub bit_numbered : Option ℕ → Option Bit → Option Bit
bit_numbered (Some n) other = Some (Number n)
bit_numbered None other = other

-- the bit that a value is, if it is one
abbrev pub bit_of : Placed → Option Bit
bit_of v = bit_numbered (whole_of (number_of v)) (bit_named (text_of v))

abbrev pub bit_or_undriven : Placed → Bit
bit_or_undriven v = unwrap_or (bit_of v) Undriven

-- the bits of an array of them
abbrev pub bits_listed : Option (List Placed) → List Bit
bits_listed None = []
bits_listed (Some vs) = map bit_or_undriven vs

abbrev pub bits_of : Placed → List Bit
bits_of v = bits_listed (array_of v)
