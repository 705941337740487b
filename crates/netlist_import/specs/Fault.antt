-- What is wrong in a JSON value that should be a netlist, and at which token. Of several faults the
-- first in the text counts, and of several at one token that of the least number.
use Rattle.std.specs.Prelude.{ℕ, zero, suc, ◌==◌, ◌||◌, ◌&&◌, nat_lt, nat_le, Bool, true, false, not, List, [], ◌∷◌, length, codes, Option, Some, None, option_map, if◌then◌else◌, is_some}
use Rattle.std.specs.List.{list_any}
use Rattle.std.specs.Str.{bytes_eq}
use Rattle.netlist_import.specs.Placed.{Placed, Member, array_of, field, number_of, object_of, text_of, token_of}
use Rattle.netlist_import.specs.Bits.{bit_of}
use Rattle.netlist_import.specs.Netlist.{direction_named, directions_given, is_black_box, module_named, text_under}
use Rattle.netlist_import.specs.declared.netlist.Module.{Module}
use Rattle.netlist_import.specs.declared.netlist.Port.{Port}
use Rattle.netlist_import.specs.declared.fault.Fault.{Fault}
use Rattle.netlist_import.specs.declared.fault.FaultKind.{FaultKind}
use Rattle.netlist_import.specs.declared.fault.FaultKind.TheVariants.{Json, NoNetlist, BadDirection, TooWide, UnlikeCells}

-- the number that the refusal prints
abbrev pub number_of_kind : FaultKind → ℕ
number_of_kind Json = 30
number_of_kind NoNetlist = 31
number_of_kind BadDirection = 32
number_of_kind TooWide = 33
number_of_kind UnlikeCells = 34

abbrev pub name_of_kind : FaultKind → List ℕ
name_of_kind Json = codes "Json"
name_of_kind NoNetlist = codes "NoNetlist"
name_of_kind BadDirection = codes "BadDirection"
name_of_kind TooWide = codes "TooWide"
name_of_kind UnlikeCells = codes "UnlikeCells"

-- a fault, if there is one
abbrev pub Found : Type 0
Found = Option Fault

abbrev pub fault_at : FaultKind → Placed → Found
fault_at kind v = Some (record { kind = kind; token = token_of v })

abbrev pub comes_first : Fault → Fault → Bool
comes_first f g =
    nat_lt f.token g.token
    || (f.token == g.token && nat_le (number_of_kind f.kind) (number_of_kind g.kind))

-- the first of two
abbrev pub earlier : Found → Found → Found
earlier None other = other
earlier (Some f) None = Some f
earlier (Some f) (Some g) = if comes_first f g then Some f else Some g

abbrev pub or_else : Found → Found → Found
or_else None other = other
or_else (Some f) other = Some f

-- the first of a list that is in the order of the text
unfoldable pub each : {A : Type 0} → (A → Found) → List A → Found
each fault [] = None
each fault (x ∷ xs) = or_else (fault x) (each fault xs)

-- ---- values of a type

abbrev pub within : {A : Type 0} → Placed → (A → Found) → Option A → Found
within v fault None = fault_at NoNetlist v
within v fault (Some parts) = fault parts

abbrev pub in_object : (List Member → Found) → Placed → Found
in_object fault v = within v fault (object_of v)

abbrev pub in_array : (List Placed → Found) → Placed → Found
in_array fault v = within v fault (array_of v)

abbrev pub object_fault : Placed → Found
object_fault v = in_object (λ ms. None) v

abbrev pub text_fault : Placed → Found
text_fault v = within v (λ bytes. None) (text_of v)

abbrev pub number_fault : Placed → Found
number_fault v = within v (λ digits. None) (number_of v)

-- ---- members

-- a member that has to be there
abbrev pub needed_in : Placed → (Placed → Found) → Option Placed → Found
needed_in whole fault None = fault_at NoNetlist whole
needed_in whole fault (Some v) = fault v

abbrev pub needed : List ℕ → (Placed → Found) → Placed → List Member → Found
needed name fault whole ms = needed_in whole fault (field name ms)

-- a member that may be missing
abbrev pub if_there : (Placed → Found) → Option Placed → Found
if_there fault None = None
if_there fault (Some v) = fault v

-- ---- bits

abbrev pub bit_fault : Placed → Found
bit_fault v = if is_some (bit_of v) then None else fault_at NoNetlist v

-- the most bits of a port or of a connection
abbrev pub widest : ℕ
widest = 256

abbrev pub narrow_fault : Placed → List Placed → Found
narrow_fault v vs = if nat_lt widest (length vs) then fault_at TooWide v else each bit_fault vs

abbrev pub port_bits_fault : Placed → Found
port_bits_fault v = in_array (narrow_fault v) v

-- the bits of a vector that may have so many
unfoldable pub limited : ℕ → List Placed → Found
limited most [] = None
limited zero (v ∷ vs) = fault_at NoNetlist v
limited (suc most) (v ∷ vs) = or_else (bit_fault v) (limited most vs)

-- how many bits a net may have
abbrev pub most_bits : ℕ
most_bits = 65536

-- no bit of an index above 65,535
abbrev pub net_bits_fault : List Placed → Found
net_bits_fault vs = limited most_bits vs

-- ---- ports

abbrev pub direction_fault_at : Placed → List ℕ → Found
direction_fault_at v name = if is_some (direction_named name) then None else fault_at BadDirection v

-- a value that has to name a direction
abbrev pub direction_fault : Placed → Found
direction_fault v = within v (direction_fault_at v) (text_of v)

abbrev pub direction_fault_in : Placed → Option Placed → Found
direction_fault_in whole None = fault_at BadDirection whole
direction_fault_in whole (Some v) = direction_fault v

abbrev pub port_fault : Member → Found
port_fault m = in_object (λ ms.
    earlier (direction_fault_in m.1 (field (codes "direction") ms))
    (needed (codes "bits") port_bits_fault m.1 ms)) m.1

abbrev pub ports_fault : Placed → Found
ports_fault v = in_object (each port_fault) v

-- ---- cells

-- The ports of the module that a cell's type is, if it is one.
abbrev pub ports_named : List ℕ → List Module → Option (List Port)
ports_named kind netlist = option_map (λ m. m.ports) (module_named kind netlist)

-- a port has this name, and its width if there are bits
abbrev pub is_like : List ℕ → ℕ → Port → Bool
is_like name width p = bytes_eq p.name name && (width == 0 || width == length p.bits)

abbrev pub is_unlike : Option (List Port) → List ℕ → ℕ → Bool
is_unlike None name width = false
is_unlike (Some ports) name width = not (list_any (is_like name width) ports)

abbrev pub lacks_direction : Option (List Port) → Option Placed → Bool
lacks_direction None None = true
lacks_direction None (Some v) = false
lacks_direction (Some ports) direction = false

-- a connection of a cell, by its module's ports or else by its directions
abbrev pub connection_fault : Option (List Port) → List Member → Member → Found
connection_fault ports directions m = in_array (λ vs.
    if lacks_direction ports (field m.0 directions) then fault_at BadDirection m.1
    else if nat_lt widest (length vs) then fault_at TooWide m.1
    else if is_unlike ports m.0 (length vs) then fault_at UnlikeCells m.1
    else each bit_fault vs) m.1

abbrev pub named_direction_fault : Member → Found
named_direction_fault m = direction_fault m.1

-- the directions of a cell, which count if it is of no module's type
abbrev pub directions_fault : Option (List Port) → Placed → List Member → Found
directions_fault None whole ms =
    needed (codes "port_directions") (in_object (each named_direction_fault)) whole ms
directions_fault (Some ports) whole ms = None

abbrev pub hidden_fault : List Member → Found
hidden_fault ms = if_there number_fault (field (codes "hide_name") ms)

abbrev pub connections_fault : Option (List Port) → Placed → List Member → Found
connections_fault ports whole ms =
    needed (codes "connections")
    (in_object (each (connection_fault ports (directions_given whole)))) whole ms

-- the directions and the connections
abbrev pub wires_fault : Option (List Port) → Placed → List Member → Found
wires_fault ports whole ms =
    earlier (directions_fault ports whole ms) (connections_fault ports whole ms)

-- the type, the directions and the connections
abbrev pub wiring_fault : Option (List Port) → Placed → List Member → Found
wiring_fault ports whole ms =
    earlier (needed (codes "type") text_fault whole ms) (wires_fault ports whole ms)

abbrev pub parts_fault : List Module → Placed → List Member → Found
parts_fault netlist whole ms =
    earlier (hidden_fault ms)
    (earlier (if_there object_fault (field (codes "parameters") ms))
    (wiring_fault (ports_named (text_under (field (codes "type") ms)) netlist) whole ms))

abbrev pub cell_fault : List Module → Member → Found
cell_fault netlist m = in_object (parts_fault netlist m.1) m.1

-- ---- modules

abbrev pub net_fault : Member → Found
net_fault m = in_object (λ ms.
    earlier (hidden_fault ms) (needed (codes "bits") (in_array net_bits_fault) m.1 ms)) m.1

abbrev pub cells_fault : List Module → Placed → List Member → Found
cells_fault netlist whole ms =
    needed (codes "cells") (in_object (each (cell_fault netlist))) whole ms

abbrev pub nets_fault : List Member → Found
nets_fault ms = if_there (in_object (each net_fault)) (field (codes "netnames") ms)

-- a cell of a module has this type
abbrev pub is_used : List Module → List ℕ → Bool
is_used netlist name = list_any (λ m. list_any (λ c. bytes_eq c.kind name) m.cells) netlist

abbrev pub written_fault : List Module → Placed → List Member → Found
written_fault netlist whole ms =
    earlier (needed (codes "ports") ports_fault whole ms)
    (earlier (cells_fault netlist whole ms) (nets_fault ms))

-- Of a black box the ports count, if it is used.
abbrev pub module_fault : List Module → Member → Found
module_fault netlist m = in_object (λ ms.
    if is_black_box ms
    then (if is_used netlist m.0 then needed (codes "ports") ports_fault m.1 ms else None)
    else earlier (if_there object_fault (field (codes "attributes") ms))
    (written_fault netlist m.1 ms)) m.1

-- the first fault of a value that has these modules
abbrev pub netlist_fault : List Module → Placed → Found
netlist_fault netlist v =
    in_object (λ ms. needed (codes "modules") (in_object (each (module_fault netlist))) v ms) v
