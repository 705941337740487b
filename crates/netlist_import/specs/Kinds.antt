-- Which cells are of one kind, and which macro a cell uses.
use Rattle.std.specs.Prelude.{ℕ, ◌+◌, ◌==◌, Bool, true, false, not, ◌&&◌, ◌||◌, List, [], ◌∷◌, ◌++◌, length, map, filter, Option, Some, None, if◌then◌else◌}
use Rattle.std.specs.List.{list_all, list_any, flat_map}
use Rattle.std.specs.Str.{bytes_eq}
use Rattle.netlist_import.specs.declared.netlist.Direction.{Direction}
use Rattle.netlist_import.specs.declared.netlist.Direction.TheVariants.{Input, Output}
use Rattle.netlist_import.specs.declared.netlist.Port.{Port}
use Rattle.netlist_import.specs.declared.netlist.Cell.{Cell}
use Rattle.netlist_import.specs.declared.netlist.Module.{Module}
use Rattle.netlist_import.specs.Netlist.{place_named}
use Rattle.netlist_import.specs.declared.kinds.Kind.{Kind}
use Rattle.netlist_import.specs.declared.shapes.Formal.{Formal}

abbrev pub is_same_way : Direction → Direction → Bool
is_same_way Input Input = true
is_same_way Input Output = false
is_same_way Output Input = false
is_same_way Output Output = true

-- ---- ports

abbrev pub has_bits : Port → Bool
has_bits p = not (length p.bits == 0)

abbrev pub formal_of : Port → Formal
formal_of p = record { name = p.name; direction = p.direction; width = length p.bits }

-- the ports with bits
abbrev pub formals_of : List Port → List Formal
formals_of ports = map formal_of (filter has_bits ports)

abbrev pub is_named : List ℕ → Formal → Bool
is_named name f = bytes_eq f.name name

-- a port leads the way of a connection, and is as wide
abbrev pub is_alike : Port → Formal → Bool
is_alike p f = is_same_way f.direction p.direction && f.width == length p.bits

-- a port of another direction or width has the name
abbrev pub differs : Port → Formal → Bool
differs p f = is_named p.name f && not (is_alike p f)

-- A connection without bits agrees with all ports, another with those that do not differ from it.
abbrev pub agrees : List Formal → Port → Bool
agrees formals p = not (has_bits p) || not (list_any (differs p) formals)

-- ---- kinds

-- the type and the parameters are the same, and no port that has bits differs
abbrev pub fits : Cell → Kind → Bool
fits cell kind =
    bytes_eq kind.kind cell.kind && (bytes_eq kind.parameters cell.parameters
    && list_all (agrees kind.ports) cell.connections)

-- with a port that has bits and a new name
abbrev pub with_port : List Formal → Port → List Formal
with_port formals p =
    if has_bits p && not (list_any (is_named p.name) formals) then formals ++ formal_of p
    ∷ [] else formals

unfoldable pub with_ports : List Formal → List Port → List Formal
with_ports formals [] = formals
with_ports formals (p ∷ ps) = with_ports (with_port formals p) ps

abbrev pub joined : Cell → Kind → Kind
joined cell kind = record kind { ports = with_ports kind.ports cell.connections }

abbrev pub kind_of : Cell → Kind
kind_of cell = record {
  kind = cell.kind;
  parameters = cell.parameters;
  ports = with_ports [] cell.connections;
}

-- The cell joins the first kind that it fits, or is the first of a new one, the last.
unfoldable pub with_cell : List Kind → Cell → List Kind
with_cell [] cell = kind_of cell ∷ []
with_cell (kind ∷ kinds) cell = if fits cell kind then joined cell kind ∷ kinds else kind
    ∷ with_cell kinds cell

-- the number of the kind that it joins
unfoldable pub joins : List Kind → Cell → ℕ
joins [] cell = 0
joins (kind ∷ kinds) cell = if fits cell kind then 0 else 1 + joins kinds cell

-- ---- what cells use

-- a macro that a cell uses: that of a module, or of a kind, each by its number
pub data Used : Type 0 where
  a_module : ℕ → Used
  a_kind : ℕ → Used

abbrev pub used_by : Option ℕ → List Kind → Cell → Used
used_by (Some place) kinds cell = a_module place
used_by None kinds cell = a_kind (joins kinds cell)

abbrev pub kinds_with : Option ℕ → List Kind → Cell → List Kind
kinds_with (Some place) kinds cell = kinds
kinds_with None kinds cell = with_cell kinds cell

-- the kinds after these cells, if these come before them
unfoldable pub kinds_after : List Module → List Kind → List Cell → List Kind
kinds_after ms kinds [] = kinds
kinds_after ms kinds (cell ∷ cells) = kinds_after ms
    (kinds_with (place_named cell.kind ms) kinds cell) cells

-- what the cells use, one after another
unfoldable pub uses_after : List Module → List Kind → List Cell → List Used
uses_after ms kinds [] = []
uses_after ms kinds (cell ∷ cells) =
    used_by (place_named cell.kind ms) kinds cell
    ∷ uses_after ms (kinds_with (place_named cell.kind ms) kinds cell) cells

-- all cells, in the order of the text
abbrev pub all_cells : List Module → List Cell
all_cells ms = flat_map (λ m. m.cells) ms

-- all kinds of cells that no module is
abbrev pub all_kinds : List Module → List Kind
all_kinds ms = kinds_after ms [] (all_cells ms)

-- what the cells of each module use
unfoldable pub all_uses_after : List Module → List Kind → List Module → List (List Used)
all_uses_after ms kinds [] = []
all_uses_after ms kinds (m ∷ rest) = uses_after ms kinds m.cells
    ∷ all_uses_after ms (kinds_after ms kinds m.cells) rest

abbrev pub all_uses : List Module → List (List Used)
all_uses ms = all_uses_after ms [] ms
