-- Names, kinds, nets and terms, worked out on paper.
use Rattle.std.proofs.Common.{◌≡◌, ℕ, true, false, List, [], ◌∷◌, Some, None, refl}
use Rattle.std.specs.Prelude.{◌++◌, codes, replicate}
use Rattle.std.specs.Fmt.{digits}
use Rattle.netlist_import.specs.declared.netlist.Bit as netlist
use Rattle.netlist_import.specs.declared.netlist.Bit.TheVariants as bit
use Rattle.netlist_import.specs.declared.netlist.Direction.{Direction}
use Rattle.netlist_import.specs.declared.netlist.Direction.TheVariants.{Input, Output}
use Rattle.netlist_import.specs.declared.netlist.Port.{Port}
use Rattle.netlist_import.specs.declared.netlist.Cell.{Cell}
use Rattle.netlist_import.specs.declared.netlist.NetName.{NetName}
use Rattle.netlist_import.specs.declared.netlist.Module.{Module}
use Rattle.netlist_import.specs.Words.{base_of, kind_word_of, word_of}
use Rattle.netlist_import.specs.Fresh.{fresh, least_from, numbered}
use Rattle.netlist_import.specs.Kinds.{fits, joins, kind_of, with_cell, with_ports}
use Rattle.netlist_import.specs.Nets.{names_a_bit, numbered_from, own_wires, wire_of, with_bits, with_vectors}
use Rattle.netlist_import.specs.Body.{runs_from, runs_of}
use Rattle.netlist_import.specs.declared.nets.Wired.{Wired}
use Rattle.netlist_import.specs.declared.nets.Wired.TheVariants as wired
use Rattle.netlist_import.specs.declared.text.Run.TheVariants as run

-- ---- names

cell_name : word_of (codes "$1") ≡ codes "n_1"
cell_name = refl

with_backslash : word_of (codes "\\u1") ≡ codes "u1"
with_backslash = refl

reserved_name : word_of (codes "END") ≡ codes "nEND"
reserved_name = refl

type_name : kind_word_of (codes "$_NOT_") ≡ codes "n__NOT_"
type_name = refl

-- the name of a primitive is that of no macro, and may be that of a cell
primitive_type : kind_word_of (codes "AND") ≡ codes "nAND"
primitive_type = refl

primitive_label : word_of (codes "AND") ≡ codes "AND"
primitive_label = refl

-- In the name of a port a point, `$` and `#` become `_`.
port_name : word_of (codes "u1.q$2#[3]") ≡ codes "u1_q_2__3_"
port_name = refl

-- In that of a net which is no port a point becomes `$`, which stays, and so does `#`.
net_name : base_of (codes "u1.q$2#[3]") ≡ codes "u1$q$2#_3_"
net_name = refl

-- What is taken ends in the least number that is not, also where a longer number would fit.
taken_name : fresh (codes "a" ∷ codes "a_1" ∷ codes "a_0" ∷ []) (codes "a") ≡ codes "a_2"
unfolding digits fresh least_from
taken_name = refl

-- 64 bytes stay, and of more so many that the number fits.
longest_name : fresh [] (replicate 64 97) ≡ replicate 64 97
unfolding digits fresh least_from
longest_name = refl

longer_name : fresh [] (replicate 65 97) ≡ replicate 62 97 ++ codes "_0"
unfolding digits fresh least_from
longer_name = refl

two_digits : numbered (replicate 64 97) 10 ≡ replicate 61 97 ++ codes "_10"
unfolding digits
two_digits = refl

-- ---- terms

abbrev at : ℕ → Wired
at index = wired.Bit (record { net = 0; index = index })

read_whole : runs_of (at 3 ∷ at 2 ∷ at 1 ∷ at 0 ∷ []) ≡ run.Bits 0 3 0 ∷ []
unfolding runs_from
read_whole = refl

-- where the first and the last bit are exchanged
exchanged : runs_of (at 0 ∷ at 2 ∷ at 1 ∷ at 3 ∷ []) ≡ run.Bits 0 0 0 ∷ run.Bits 0 2 1
    ∷ run.Bits 0 3 3 ∷ []
unfolding runs_from
exchanged = refl

-- Constants and bits of another net end a range, and bits that go up begin one each.
apart : runs_of (at 2 ∷ wired.One ∷ at 1 ∷ wired.Bit (record { net = 1; index = 0 }) ∷ at 1 ∷ at 2
    ∷ []) ≡
    run.Bits 0 2 2 ∷ run.One ∷ run.Bits 0 1 1 ∷ run.Bits 1 0 0 ∷ run.Bits 0 1 1 ∷ run.Bits 0 2 2
    ∷ []
unfolding runs_from
apart = refl

-- ---- bits and their nets

abbrev port : Direction → List netlist.Bit → Port
port way bits = record { name = codes "p"; direction = way; bits = bits }

abbrev net : List netlist.Bit → NetName
net bits = record { name = codes "n"; is_hidden = false; bits = bits }

-- an output that has the bit of an input, though it comes first, and a net that has it and one of
-- its own
abbrev small : Module
small = record {
  name = codes "m";
  is_black_box = false;
  ports = port Output (bit.Number 2 ∷ []) ∷ port Input (bit.Zero ∷ bit.Number 2 ∷ []) ∷ [];
  cells = [];
  nets = net (bit.Number 2 ∷ []) ∷ net (bit.Number 2 ∷ bit.Number 7 ∷ []) ∷ [];
}

by_input : wire_of 2 (own_wires small) ≡ Some (record { net = 1; index = 1 })
unfolding numbered_from with_bits with_vectors
by_input = refl

by_net : wire_of 7 (own_wires small) ≡ Some (record { net = 3; index = 1 })
unfolding numbered_from with_bits with_vectors
by_net = refl

by_none : wire_of 8 (own_wires small) ≡ None
unfolding numbered_from with_bits with_vectors
by_none = refl

names_none : names_a_bit (own_wires small) 2 (bit.Number 2 ∷ []) ≡ false
unfolding numbered_from with_bits with_vectors
names_none = refl

names_one : names_a_bit (own_wires small) 3 (bit.Number 2 ∷ bit.Number 7 ∷ []) ≡ true
unfolding numbered_from with_bits with_vectors
names_one = refl

-- ---- kinds

abbrev cell : List netlist.Bit → Cell
cell bits = record {
  name = codes "c";
  is_hidden = false;
  kind = codes "T";
  parameters = [];
  connections = record { name = codes "A"; direction = Input; bits = bits } ∷ [];
}

-- a port of another width is of another kind, and one without bits of each
wider : fits (cell (bit.Number 2 ∷ bit.Number 3 ∷ [])) (kind_of (cell (bit.Number 2 ∷ []))) ≡ false
unfolding with_ports
wider = refl

left_empty : fits (cell []) (kind_of (cell (bit.Number 2 ∷ []))) ≡ true
unfolding with_ports
left_empty = refl

-- one that leads the other way is of another kind, and so are other parameters
abbrev out_cell : Cell
out_cell = record (cell []) {
  connections = record { name = codes "A"; direction = Output; bits = bit.Number 2 ∷ [] } ∷ [];
}

other_way : fits out_cell (kind_of (cell (bit.Number 2 ∷ []))) ≡ false
unfolding with_ports
other_way = refl

other_parameters : fits (record (cell (bit.Number 2 ∷ [])) { parameters = codes "{}" })
    (kind_of (cell (bit.Number 2 ∷ []))) ≡ false
unfolding with_ports
other_parameters = refl

second : joins (kind_of (cell (bit.Zero ∷ [])) ∷ []) (cell (bit.Zero ∷ bit.One ∷ [])) ≡ 1
unfolding joins with_ports
second = refl

-- What has no bits in the first cell joins the ports with the second.
grown : with_cell (kind_of (cell []) ∷ []) (cell (bit.Number 9 ∷ []))
    ≡ kind_of (cell (bit.Number 4 ∷ [])) ∷ []
unfolding with_cell with_ports
grown = refl
