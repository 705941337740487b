-- Small texts and values: where tokens begin, which value tokens are, and what is wrong in it, both ways.
use Rattle.std.proofs.Common.{◌≡◌, ℕ, true, false, List, [], ◌∷◌, Some, None, Ok, Err, refl}
use Rattle.std.specs.Prelude.{codes, replicate}
use Rattle.json.specs.Token as token
use Rattle.netlist_import.specs.declared.fault.FaultKind.TheVariants.{NoNetlist, BadDirection, TooWide, UnlikeCells}
use Rattle.netlist_import.specs.declared.netlist.Bit.TheVariants.{Number, Undriven}
use Rattle.netlist_import.specs.declared.netlist.Direction.TheVariants.{Input}
use Rattle.netlist_import.specs.declared.netlist.Port.{Port}
use Rattle.netlist_import.specs.declared.offset.Within.TheVariants.{Between}
use Rattle.netlist_import.specs.declared.offset.Parting.TheVariants.{Never}
use Rattle.netlist_import.specs.Placed.{Placed, null, number, text, array, object, no_items, item, items_of, no_members, member, field, spelled}
use Rattle.netlist_import.specs.Offset.{offset}
use Rattle.netlist_import.specs.Parsed.{beginning, run}
use Rattle.netlist_import.specs.Bits.{bit_of, whole}
use Rattle.netlist_import.specs.Netlist.{is_binary_one, is_set}
use Rattle.netlist_import.specs.Fault.{netlist_fault, connection_fault, direction_fault, each, port_bits_fault}

-- ---- where tokens begin

-- a separator that may stand is passed over
second_item : offset Between Never 2 (codes "[1, 2]") ≡ 4
unfolding offset
second_item = refl

-- one that may not stand counts as the token that is looked for
doubled_comma : offset Between Never 2 (codes "[1,,2]") ≡ 3
unfolding offset
doubled_comma = refl

-- a colon after a number
stray_colon : offset Between Never 2 (codes "[1:2]") ≡ 2
unfolding offset
stray_colon = refl

-- what stands in a text is no token, and a quote behind a backslash does not end it
behind_text : offset Between Never 2 (91 ∷ 34 ∷ 92 ∷ 34 ∷ 44 ∷ 91 ∷ 34 ∷ 32 ∷ 93 ∷ []) ≡ 8
unfolding offset
behind_text = refl

end_of_text : offset Between Never 9 (codes "[1]") ≡ 3
unfolding offset
end_of_text = refl

-- ---- which value tokens are

one_item : run beginning 0 (token.begin_array ∷ token.number (codes "1") ∷ token.end_array ∷ [])
    ≡ Ok (array 0 (item (number 1 (codes "1")) no_items))
unfolding run
one_item = refl

one_member : run beginning 0 (token.begin_object ∷ token.key (codes "a") ∷ token.null
    ∷ token.end_object ∷ []) ≡ Ok (object 0 (member (codes "a") (null 2) no_members))
unfolding run
one_member = refl

-- nothing, two values, an end too many, and a name without a value
nothing : run beginning 0 [] ≡ Err 0
unfolding run
nothing = refl

two_values : run beginning 0 (token.null ∷ token.null ∷ []) ≡ Err 1
unfolding run
two_values = refl

closed_twice : run beginning 0 (token.begin_array ∷ token.end_array ∷ token.end_array ∷ []) ≡ Err 2
unfolding run
closed_twice = refl

no_value : run beginning 0 (token.begin_object ∷ token.key (codes "a") ∷ token.end_object ∷ [])
    ≡ Err 2
unfolding run
no_value = refl

-- a name that stands twice in one object goes wrong there, and one in two objects does not
twice : run beginning 0 (token.begin_object ∷ token.key (codes "a") ∷ token.null
    ∷ token.key (codes "a") ∷ token.null ∷ token.end_object ∷ []) ≡ Err 3
unfolding run
twice = refl

inside : run beginning 0 (token.begin_object ∷ token.key (codes "a") ∷ token.begin_object
    ∷ token.key (codes "a") ∷ token.null ∷ token.end_object ∷ token.end_object ∷ [])
    ≡ Ok (object 0 (member (codes "a") (object 2 (member (codes "a") (null 4) no_members))
    no_members))
unfolding run
inside = refl

-- the sixty-fifth that is open
too_deep : run beginning 0 (replicate 65 token.begin_array) ≡ Err 64
unfolding run
too_deep = refl

-- ---- bits and black boxes

greatest : bit_of (number 0 (codes "4294967295")) ≡ Some (Number 4294967295)
unfolding whole
greatest = refl

too_great : bit_of (number 0 (codes "4294967296")) ≡ None
unfolding whole
too_great = refl

not_whole : bit_of (number 0 (codes "2.0")) ≡ None
unfolding whole
not_whole = refl

floating : bit_of (text 0 (codes "z")) ≡ Some Undriven
floating = refl

no_bit : bit_of (text 0 (codes "2")) ≡ None
no_bit = refl

set : is_binary_one (codes "0001") ≡ true
set = refl

unset : is_binary_one (codes "0010") ≡ false
unset = refl

no_digits : is_binary_one [] ≡ false
no_digits = refl

-- the number 1, or binary digits of value 1
by_number : is_set (Some (number 0 (codes "1"))) ≡ true
unfolding whole
by_number = refl

by_digits : is_set (Some (text 0 (codes "0001"))) ≡ true
by_digits = refl

by_none : is_set None ≡ false
by_none = refl

-- ---- what is wrong

leads_in : direction_fault (text 3 (codes "input")) ≡ None
leads_in = refl

leads_both_ways : direction_fault (text 3 (codes "inout"))
    ≡ Some (record { kind = BadDirection; token = 3 })
leads_both_ways = refl

no_direction : direction_fault (null 3) ≡ Some (record { kind = NoNetlist; token = 3 })
no_direction = refl

no_modules : netlist_fault [] (object 0 no_members) ≡ Some (record { kind = NoNetlist; token = 0 })
unfolding field
no_modules = refl

empty : netlist_fault [] (object 0 (member (codes "modules") (object 2 no_members) no_members))
    ≡ None
unfolding field each
empty = refl

-- ---- connections

-- as many bits
abbrev wide : ℕ → Placed
wide n = array 9 (items_of (replicate n (text 10 (codes "x"))))

widest_port : port_bits_fault (wide 256) ≡ None
unfolding each
widest_port = refl

wider_port : port_bits_fault (wide 257) ≡ Some (record { kind = TooWide; token = 9 })
unfolding each
wider_port = refl

-- of two at one place that of the least number
no_way : connection_fault None [] (codes "A", wide 257)
    ≡ Some (record { kind = BadDirection; token = 9 })
unfolding each field
no_way = refl

-- of a module's port of two bits: two, none, and one
abbrev two_bits : List Port
two_bits = record { name = codes "d"; direction = Input; bits = Undriven ∷ Undriven ∷ [] } ∷ []

as_wide : connection_fault (Some two_bits) [] (codes "d", wide 2) ≡ None
unfolding each field
as_wide = refl

without_bits : connection_fault (Some two_bits) [] (codes "d", wide 0) ≡ None
unfolding each field
without_bits = refl

narrower : connection_fault (Some two_bits) [] (codes "d", wide 1)
    ≡ Some (record { kind = UnlikeCells; token = 9 })
unfolding each field
narrower = refl

other_port : connection_fault (Some two_bits) [] (codes "e", wide 2)
    ≡ Some (record { kind = UnlikeCells; token = 9 })
unfolding each field
other_port = refl

-- ---- texts of values

-- an array of nothing, of an empty array, and of two values
empty_array : spelled (array 0 no_items) ≡ codes "[]"
empty_array = refl

nested_array : spelled (array 0 (item (array 1 no_items) no_items)) ≡ codes "[[]]"
nested_array = refl

two_items : spelled (array 0 (item (null 1) (item (null 2) no_items))) ≡ codes "[nn]"
two_items = refl
