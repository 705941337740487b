-- The modules that a JSON value has. If a part is missing or of another type this says something
-- too, but such a value is refused (`Fault`).
use Rattle.std.specs.Prelude.{ℕ, ◌==◌, ◌&&◌, ◌||◌, Bool, false, not, List, [], ◌∷◌, map, slice_get, codes, Option, Some, None, if◌then◌else◌}
use Rattle.std.specs.List.{position_from}
use Rattle.std.specs.Option.{unwrap_or}
use Rattle.std.specs.Str.{bytes_eq}
use Rattle.netlist_import.specs.Placed.{Placed, Member, field, object_of, number_of, text_of, spelled, object, no_members}
use Rattle.netlist_import.specs.Bits.{bits_of, whole_of}
use Rattle.netlist_import.specs.declared.netlist.Direction.{Direction}
use Rattle.netlist_import.specs.declared.netlist.Direction.TheVariants.{Input, Output}
use Rattle.netlist_import.specs.declared.netlist.Bit.{Bit}
use Rattle.netlist_import.specs.declared.netlist.Port.{Port}
use Rattle.netlist_import.specs.declared.netlist.Cell.{Cell}
use Rattle.netlist_import.specs.declared.netlist.NetName.{NetName}
use Rattle.netlist_import.specs.declared.netlist.Module.{Module}

-- ---- members

abbrev pub members_or_none : Option (List Member) → List Member
members_or_none None = []
members_or_none (Some ms) = ms

-- the members of an object, and none of another value
abbrev pub members_in : Placed → List Member
members_in v = members_or_none (object_of v)

abbrev pub object_in : Option Placed → Option (List Member)
object_in None = None
object_in (Some v) = object_of v

-- the same of the member of a name
abbrev pub members_under : List ℕ → List Member → List Member
members_under name ms = members_or_none (object_in (field name ms))

-- ---- ports

abbrev pub direction_named : List ℕ → Option Direction
direction_named name =
    if bytes_eq name (codes "input") then Some Input
    else if bytes_eq name (codes "output") then Some Output
    else None

abbrev pub direction_texted : Option (List ℕ) → Option Direction
direction_texted None = None
direction_texted (Some name) = direction_named name

abbrev pub direction_of : Option Placed → Option Direction
direction_of None = None
direction_of (Some v) = direction_texted (text_of v)

abbrev pub bits_under : Option Placed → List Bit
bits_under None = []
bits_under (Some v) = bits_of v

abbrev pub port_of : Member → Port
port_of m = record {
  name = m.0;
  direction = unwrap_or (direction_of (field (codes "direction") (members_in m.1))) Input;
  bits = bits_under (field (codes "bits") (members_in m.1));
}

-- ---- cells

-- the directions that a cell gives
unfoldable pub directions_given : Placed → List Member
directions_given cell = members_under (codes "port_directions") (members_in cell)

-- a connection of a cell, by the directions that the cell gives
abbrev pub connection_of : List Member → Member → Port
connection_of directions m = record {
  name = m.0;
  direction = unwrap_or (direction_of (field m.0 directions)) Input;
  bits = bits_of m.1;
}

abbrev pub number_under : Option Placed → Option (List ℕ)
number_under None = None
number_under (Some v) = number_of v

abbrev pub is_not_zero : Option (List ℕ) → Bool
is_not_zero None = false
is_not_zero (Some digits) = not (bytes_eq digits (codes "0"))

-- `hide_name` is there, and not 0
abbrev pub is_hidden : List Member → Bool
is_hidden ms = is_not_zero (number_under (field (codes "hide_name") ms))

abbrev pub bytes_or_none : Option (List ℕ) → List ℕ
bytes_or_none None = []
bytes_or_none (Some bytes) = bytes

abbrev pub text_under : Option Placed → List ℕ
text_under None = []
text_under (Some v) = bytes_or_none (text_of v)

-- the text of parameters; if there are none it is that of an empty object
abbrev pub parameters_text : Option Placed → List ℕ
parameters_text None = spelled (object 0 no_members)
parameters_text (Some v) = spelled v

abbrev pub cell_of : Member → Cell
cell_of m = record {
  name = m.0;
  is_hidden = is_hidden (members_in m.1);
  kind = text_under (field (codes "type") (members_in m.1));
  parameters = parameters_text (field (codes "parameters") (members_in m.1));
  connections =
      map (connection_of (directions_given m.1))
      (members_under (codes "connections") (members_in m.1));
}

-- ---- modules

abbrev pub net_of : Member → NetName
net_of m = record {
  name = m.0;
  is_hidden = is_hidden (members_in m.1);
  bits = bits_under (field (codes "bits") (members_in m.1));
}

-- binary digits of value 1
abbrev pub is_binary_one : List ℕ → Bool
is_binary_one [] = false
is_binary_one (b ∷ bs) = (b == 49 && bytes_eq bs []) || (b == 48 && is_binary_one bs)

abbrev pub is_one : Option ℕ → Bool
is_one None = false
is_one (Some n) = n == 1

abbrev pub is_binary_text : Option (List ℕ) → Bool
is_binary_text None = false
is_binary_text (Some bytes) = is_binary_one bytes

-- the number 1, or binary digits of value 1
abbrev pub is_set : Option Placed → Bool
is_set None = false
is_set (Some v) = is_one (whole_of (number_of v)) || is_binary_text (text_of v)

abbrev pub is_black_box : List Member → Bool
is_black_box ms = is_set (field (codes "blackbox") (members_under (codes "attributes") ms))

-- the members under a name, of which a black box has none
abbrev pub inside : List ℕ → List Member → List Member
inside name ms = if is_black_box ms then [] else members_under name ms

abbrev pub module_of : Member → Module
module_of m = record {
  name = m.0;
  is_black_box = is_black_box (members_in m.1);
  ports = map port_of (members_under (codes "ports") (members_in m.1));
  cells = map cell_of (inside (codes "cells") (members_in m.1));
  nets = map net_of (inside (codes "netnames") (members_in m.1));
}

abbrev pub netlist_of : Placed → List Module
netlist_of v = map module_of (members_under (codes "modules") (members_in v))

-- ---- looking into it

-- the place of the first module of a name, from 0
abbrev pub place_named : List ℕ → List Module → Option ℕ
place_named name ms = position_from (λ m. bytes_eq m.name name) 0 ms

abbrev pub module_at : List Module → Option ℕ → Option Module
module_at ms None = None
module_at ms (Some place) = slice_get ms place

-- the first module of a name
abbrev pub module_named : List ℕ → List Module → Option Module
module_named name ms = module_at ms (place_named name ms)
