-- Whole macros of small modules, worked out on paper.
use Rattle.std.proofs.Common.{◌≡◌, ℕ, Bool, true, false, List, [], ◌∷◌, refl}
use Rattle.std.specs.Prelude.{codes}
use Rattle.std.specs.Fmt.{digits}
use Rattle.drawing_tree.specs.Canonical.{body_lines, bracketed, bracketed_if_some, else_lines, macro_head, macro_lines, statement_lines, statements_lines, use_head, use_text}
use Rattle.drawing_tree.specs.ExpressionText.{condition_text}
use Rattle.netlist_import.specs.declared.netlist.Bit as netlist
use Rattle.netlist_import.specs.declared.netlist.Bit.TheVariants as bit
use Rattle.netlist_import.specs.declared.netlist.Direction.{Direction}
use Rattle.netlist_import.specs.declared.netlist.Direction.TheVariants.{Input, Output}
use Rattle.netlist_import.specs.declared.netlist.Port.{Port}
use Rattle.netlist_import.specs.declared.netlist.Cell.{Cell}
use Rattle.netlist_import.specs.declared.netlist.NetName.{NetName}
use Rattle.netlist_import.specs.declared.netlist.Module.{Module}
use Rattle.netlist_import.specs.Fresh.{fresh, least_from, names_after}
use Rattle.netlist_import.specs.Kinds.{all_uses_after, joins, kinds_after, uses_after, with_cell, with_ports}
use Rattle.netlist_import.specs.Shapes.{shaped}
use Rattle.netlist_import.specs.Nets.{downwards, nets_wanted, numbered_from, stand_along, with_all, with_bits, with_vectors}
use Rattle.netlist_import.specs.Body.{all_outlets, buffer_labels, buffers, cell_labels, cells_written, connected, formals_named, listed, port_outlets, runs_from}
use Rattle.netlist_import.specs.Design.{boxes_written, cell_macros, design_macros, macros_text, modules_written}

abbrev port : List ℕ → Direction → List netlist.Bit → Port
port name way bits = record { name = name; direction = way; bits = bits }

abbrev cell : List ℕ → List ℕ → List Port → Cell
cell name kind connections = record {
  name = name;
  is_hidden = false;
  kind = kind;
  parameters = [];
  connections = connections;
}

abbrev module_of : Bool → List ℕ → List Port → List Cell → List NetName → Module
module_of is_black_box name ports cells nets = record {
  name = name;
  is_black_box = is_black_box;
  ports = ports;
  cells = cells;
  nets = nets;
}

abbrev text_of : List Module → List ℕ
text_of ms = macros_text (design_macros ms)

-- ---- one cell

abbrev one : Module
one = module_of false (codes "top")
    (port (codes "a") Input (bit.Number 2 ∷ []) ∷ port (codes "y") Output (bit.Number 3 ∷ []) ∷ [])
    (cell (codes "$1") (codes "$_NOT_")
    (port (codes "A") Input (bit.Number 2 ∷ [])
    ∷ port (codes "Y") Output (bit.Number 3 ∷ []) ∷ []) ∷ []) []

of_one_cell : text_of (one ∷ [])
    ≡ codes "MACRO top (\"a\") -> (\"y\");\n  n_1 : n__NOT_ (\"a\") -> (\"y\");\nEND;\n"
unfolding digits condition_text body_lines bracketed bracketed_if_some statement_lines statements_lines else_lines macro_head macro_lines use_head use_text fresh least_from names_after all_uses_after joins kinds_after uses_after with_cell with_ports shaped downwards nets_wanted numbered_from stand_along with_all with_bits with_vectors all_outlets buffer_labels buffers cell_labels cells_written connected formals_named listed port_outlets runs_from modules_written
of_one_cell = refl

its_kind : macros_text (cell_macros (one ∷ []))
    ≡ codes "MACRO n__NOT_ (\"A\") -> (\"Y\");\nEND;\n"
unfolding digits condition_text body_lines bracketed bracketed_if_some statement_lines statements_lines else_lines macro_head macro_lines fresh least_from names_after joins kinds_after with_cell with_ports shaped formals_named boxes_written
its_kind = refl

-- ---- a vector that a cell reads whole, with constants, and one that it leaves out; an output that
-- is an input, a constant, a bit of its own again, and a bit that nothing drives

abbrev read_by : List netlist.Bit → List netlist.Bit → Cell
read_by bits other = cell (codes "u") (codes "T")
    (port (codes "A") Input bits ∷ port (codes "B") Input other ∷ [])

abbrev several : Module
several = module_of false (codes "m")
    (port (codes "p") Input (bit.Number 5 ∷ bit.Number 4 ∷ bit.Number 3 ∷ [])
    ∷ port (codes "y") Output (bit.Number 4 ∷ bit.Zero ∷ bit.One ∷ bit.Undriven ∷ bit.Number 9
    ∷ bit.Number 9 ∷ []) ∷ [])
    (read_by (bit.Number 5 ∷ bit.Number 4 ∷ bit.Number 3 ∷ bit.One ∷ bit.Zero ∷ [])
    (bit.Number 3 ∷ bit.Number 9 ∷ [])
    ∷ read_by (bit.Number 3 ∷ bit.Undriven ∷ bit.Number 5 ∷ bit.Number 7 ∷ bit.Number 7 ∷ []) []
    ∷ []) []

of_several : text_of (several ∷ [])
    ≡ codes "MACRO m (\"p\"<2:0>) -> (\"y\"<5:0>);\n  u : T (ZERO & ONE & \"p\"<2:0>, \"y\"<4> & \"p\"<2>);\n  u_0 : T (\"b\" & \"b\" & \"p\"<0> & \"x0\" & \"p\"<2>, \"x1\"<1:0>);\n  thru0 : BUF [0:0] (\"p\"<1>) -> (\"y\"<0>);\n  thru1 : BUF [0:0] (ZERO) -> (\"y\"<1>);\n  thru2 : BUF [0:0] (ONE) -> (\"y\"<2>);\n  thru3 : BUF [0:0] (\"y\"<4>) -> (\"y\"<5>);\nEND;\n"
unfolding digits condition_text body_lines bracketed bracketed_if_some statement_lines statements_lines else_lines macro_head macro_lines use_head use_text fresh least_from names_after all_uses_after joins kinds_after uses_after with_cell with_ports shaped downwards nets_wanted numbered_from stand_along with_all with_bits with_vectors all_outlets buffer_labels buffers cell_labels cells_written connected formals_named listed port_outlets runs_from modules_written
of_several = refl

-- ---- a module as a cell, whose connections come in another order; a black box, and names that
-- are taken

abbrev box : Module
box = module_of true (codes "top")
    (port (codes "d") Input (bit.Number 0 ∷ bit.Number 1 ∷ [])
    ∷ port (codes "q") Output (bit.Number 2 ∷ []) ∷ []) [] []

abbrev user : Module
user = module_of false (codes "\\top") (port (codes "k") Input (bit.Number 2 ∷ []) ∷ [])
    (cell (codes "v") (codes "T") (port (codes "A") Input (bit.Number 2 ∷ []) ∷ [])
    ∷ cell (codes "u") (codes "top")
    (port (codes "q") Output (bit.Number 8 ∷ [])
    ∷ port (codes "d") Input (bit.Number 2 ∷ bit.Number 8 ∷ []) ∷ []) ∷ []) []

of_a_box : text_of (box ∷ user ∷ [])
    ≡ codes "MACRO top_0 (\"k\");\n  v : T (\"k\");\n  u : top (\"b\" & \"k\") -> (\"b\");\nEND;\n"
unfolding digits condition_text body_lines bracketed bracketed_if_some statement_lines statements_lines else_lines macro_head macro_lines use_head use_text fresh least_from names_after all_uses_after joins kinds_after uses_after with_cell with_ports shaped downwards nets_wanted numbered_from stand_along with_all with_bits with_vectors all_outlets buffer_labels buffers cell_labels cells_written connected formals_named listed port_outlets runs_from modules_written
of_a_box = refl

-- the kinds, and then the boxes that some cell uses
to_fill_in : macros_text (cell_macros (box ∷ user ∷ []))
    ≡ codes "MACRO T (\"A\");\nEND;\nMACRO top (\"d\"<1:0>) -> (\"q\");\nEND;\n"
unfolding digits condition_text body_lines bracketed bracketed_if_some statement_lines statements_lines else_lines macro_head macro_lines fresh least_from names_after joins kinds_after with_cell with_ports shaped formals_named boxes_written
to_fill_in = refl

box_without_cells : macros_text (cell_macros (box ∷ [])) ≡ []
unfolding digits condition_text body_lines bracketed bracketed_if_some statement_lines statements_lines else_lines macro_head macro_lines fresh least_from names_after joins kinds_after with_cell with_ports shaped formals_named boxes_written
box_without_cells = refl

-- ---- nets: hidden ones last, and numbered only if they name a bit

abbrev net : Bool → List ℕ → List netlist.Bit → NetName
net is_hidden name bits = record { name = name; is_hidden = is_hidden; bits = bits }

abbrev named : Module
named = module_of false (codes "m") []
    (cell (codes "u") (codes "T")
    (port (codes "A") Input (bit.Number 2 ∷ bit.Number 3 ∷ bit.Number 4 ∷ []) ∷ []) ∷ [])
    (net true (codes "h") (bit.Number 3 ∷ []) ∷ net true (codes "i") (bit.Number 2 ∷ [])
    ∷ net false (codes "a.b") (bit.Number 3 ∷ []) ∷ net false (codes "c") (bit.Number 3 ∷ [])
    ∷ net true (codes "j") (bit.Number 2 ∷ bit.Number 4 ∷ []) ∷ [])

of_named : text_of (named ∷ [])
    ≡ codes "MACRO m ();\n  u : T (\"n1\"<1> & \"a$b\" & \"n0\");\nEND;\n"
unfolding digits condition_text body_lines bracketed bracketed_if_some statement_lines statements_lines else_lines macro_head macro_lines use_head use_text fresh least_from names_after all_uses_after joins kinds_after uses_after with_cell with_ports shaped downwards nets_wanted numbered_from stand_along with_all with_bits with_vectors all_outlets buffer_labels buffers cell_labels cells_written connected formals_named listed port_outlets runs_from modules_written
of_named = refl

-- ---- ports whose words are one, and nets of their names

abbrev worded : Module
worded = module_of false (codes "m")
    (port (codes "a.b") Input (bit.Number 2 ∷ []) ∷ port (codes "a$b") Output (bit.Number 3 ∷ [])
    ∷ port (codes "END") Input (bit.Number 4 ∷ []) ∷ [])
    (cell (codes "u") (codes "T") (port (codes "c.d") Input (bit.Number 2 ∷ bit.Number 5 ∷ [])
    ∷ port (codes "c$d") Input (bit.Number 3 ∷ bit.Number 6 ∷ []) ∷ []) ∷ [])
    (net false (codes "a.b") (bit.Number 5 ∷ []) ∷ net false (codes "a_b") (bit.Number 6 ∷ []) ∷ [])

of_worded : text_of (worded ∷ [])
    ≡ codes "MACRO m (\"a_b\", \"nEND\") -> (\"a_b_0\");\n  u : T (\"a$b\" & \"a_b\", \"a_b_1\" & \"a_b_0\");\nEND;\n"
unfolding digits condition_text body_lines bracketed bracketed_if_some statement_lines statements_lines else_lines macro_head macro_lines use_head use_text fresh least_from names_after all_uses_after joins kinds_after uses_after with_cell with_ports shaped downwards nets_wanted numbered_from stand_along with_all with_bits with_vectors all_outlets buffer_labels buffers cell_labels cells_written connected formals_named listed port_outlets runs_from modules_written
of_worded = refl

worded_kind : macros_text (cell_macros (worded ∷ []))
    ≡ codes "MACRO T (\"c_d\"<1:0>, \"c_d_0\"<1:0>);\nEND;\n"
unfolding digits condition_text body_lines bracketed bracketed_if_some statement_lines statements_lines else_lines macro_head macro_lines fresh least_from names_after joins kinds_after with_cell with_ports shaped formals_named boxes_written
worded_kind = refl
