-- The macro that a module becomes.
use Rattle.std.specs.Prelude.{ℕ, pos, ◌+◌, ◌-◌, ◌==◌, ◌&&◌, nat_lt, Bool, false, List, [], ◌∷◌, ◌++◌, map, filter, codes, slice_get, Option, Some, None, if◌then◌else◌}
use Rattle.std.specs.List.{find, join_by}
use Rattle.std.specs.Str.{bytes_eq}
use Rattle.scald_base.specs.declared.assertion.AssertSpec.TheVariants.{None as Unasserted}
use Rattle.assertion_syntax.specs.declared.name.SignalName.{SignalName}
use Rattle.drawing_tree.specs.Expression as e
use Rattle.drawing_tree.specs.Tree as tree
use Rattle.drawing_tree.specs.Places.{nowhere}
use Rattle.drawing_tree.specs.Canonical.{term_text}
use Rattle.netlist_import.specs.declared.netlist.Bit as netlist
use Rattle.netlist_import.specs.declared.netlist.Bit.TheVariants as bit
use Rattle.netlist_import.specs.declared.netlist.Direction.{Direction}
use Rattle.netlist_import.specs.declared.netlist.Direction.TheVariants.{Input, Output}
use Rattle.netlist_import.specs.declared.netlist.Port.{Port}
use Rattle.netlist_import.specs.declared.netlist.Cell.{Cell}
use Rattle.netlist_import.specs.declared.netlist.Module.{Module}
use Rattle.netlist_import.specs.Words.{word_of, counted}
use Rattle.netlist_import.specs.Fresh.{names_after}
use Rattle.netlist_import.specs.Kinds.{has_bits, is_same_way}
use Rattle.netlist_import.specs.Nets.{numbered_from, own_nets, wires, left_out, wire_of}
use Rattle.netlist_import.specs.declared.nets.Nets.{Nets}
use Rattle.netlist_import.specs.declared.nets.Net.{Net}
use Rattle.netlist_import.specs.declared.nets.Wire.{Wire}
use Rattle.netlist_import.specs.declared.nets.Wired.{Wired}
use Rattle.netlist_import.specs.declared.nets.Wired.TheVariants as wired
use Rattle.netlist_import.specs.declared.outlets.Outlet.{Outlet}
use Rattle.netlist_import.specs.declared.text.Run.{Run}
use Rattle.netlist_import.specs.declared.text.Run.TheVariants as run
use Rattle.netlist_import.specs.declared.shapes.Formal.{Formal}
use Rattle.netlist_import.specs.declared.shapes.Shape.{Shape}

-- ---- connections

-- the term of one bit
abbrev pub run_of : Wired → Run
run_of wired.Zero = run.Zero
run_of wired.One = run.One
run_of (wired.Bit w) = run.Bits w.net w.index w.index

-- the term with a bit more at its end, if that is the next one down in the same net
abbrev pub with_next : Run → Wired → Option Run
with_next run.Zero w = None
with_next run.One w = None
with_next (run.Bits net first last) wired.Zero = None
with_next (run.Bits net first last) wired.One = None
with_next (run.Bits net first last) (wired.Bit w) =
    if w.net == net && last == w.index + 1 then Some (run.Bits net first w.index) else None

abbrev pub go_on : Run → Run → (Run → List Run) → Option Run → List Run
go_on this next rest None = this ∷ rest next
go_on this next rest (Some longer) = rest longer

-- this term, longer if the next bits go on with it, and those after it
unfoldable pub runs_from : Run → List Wired → List Run
runs_from this [] = this ∷ []
runs_from this (w ∷ ws) = go_on this (run_of w) (λ next. runs_from next ws) (with_next this w)

abbrev pub runs_of : List Wired → List Run
runs_of [] = []
runs_of (w ∷ ws) = runs_from (run_of w) ws

abbrev pub number : ℕ → e.Expression
number n = e.Number (pos n)

abbrev pub signal : List ℕ → SignalName
signal name = record { base = name; global = false; spec = Unasserted }

abbrev pub last_of : ℕ → ℕ → Option e.Expression
last_of first last = if first == last then None else Some (number last)

-- A net of one bit has no index.
abbrev pub range_in : Net → ℕ → ℕ → Option tree.Range
range_in net first last =
    if nat_lt 1 net.width then Some (record { first = number first; last = last_of first last })
    else None

abbrev pub item_in : Option Net → ℕ → ℕ → tree.Item
item_in None first last = tree.Zero
item_in (Some net) first last = tree.Named (signal net.name) (range_in net first last)

abbrev pub item_of : List Net → Run → tree.Item
item_of nets run.Zero = tree.Zero
item_of nets run.One = tree.One
item_of nets (run.Bits net first last) = item_in (slice_get nets net) first last

abbrev pub term_of : List Net → Run → tree.Term
term_of nets r = record { minus = false; item = item_of nets r }

-- their text
abbrev pub runs_text : List Net → List Run → List ℕ
runs_text nets rs = join_by term_text (codes " & ") (map (term_of nets) rs)

abbrev pub connection_of : List Net → List Wired → tree.Connection
connection_of nets ws = record {
  terms = map (term_of nets) (runs_of ws);
  hold = false;
  place = nowhere;
}

-- ---- cells

-- the bits that a cell has at a port, if it has some
abbrev pub bits_or_none : Option Port → Option (List netlist.Bit)
bits_or_none None = None
bits_or_none (Some p) = if has_bits p then Some p.bits else None

abbrev pub bits_at : Cell → List ℕ → Option (List netlist.Bit)
bits_at cell name = bits_or_none (find (λ p. bytes_eq p.name name) cell.connections)

abbrev pub wires_or_none : ℕ → Nets → Option (List netlist.Bit) → List Wired × Nets
wires_or_none width s None = left_out width s
wires_or_none width s (Some bs) = wires bs s

abbrev pub wires_at : Cell → Formal → Nets → List Wired × Nets
wires_at cell f s = wires_or_none f.width s (bits_at cell f.name)

-- the connections of a cell to ports, one after another, and the nets after them
pub record Connected : Type 0 where
  pub connections : List tree.Connection
  pub nets : Nets

abbrev pub before : List Wired × Nets → Connected → Connected
before first rest = record rest {
  connections = connection_of first.1.list first.0
      ∷ rest.connections;
}

unfoldable pub connected : Cell → List Formal → Nets → Connected
connected cell [] s = record { connections = []; nets = s }
connected cell (f ∷ fs) s = before (wires_at cell f s) (connected cell fs (wires_at cell f s).1)

abbrev pub of_way : Direction → List Formal → List Formal
of_way way fs = filter (λ f. is_same_way f.direction way) fs

abbrev pub use_of : List ℕ → List ℕ → List tree.Connection → List tree.Connection →
    tree.UseStatement
use_of label kind ins outs = record {
  label = label;
  kind = kind;
  delay = None;
  fall = None;
  params = [];
  ins = ins;
  outs = outs;
  place = nowhere;
}

-- statements, and the nets after them
pub record Written : Type 0 where
  pub statements : List tree.Statement
  pub nets : Nets

-- The inputs are written first.
abbrev pub cell_use : Cell → List ℕ → Shape → Nets → Written
cell_use cell label shape s =
    let ins = connected cell (of_way Input shape.ports) s in
    let outs = connected cell (of_way Output shape.ports) ins.nets in record {
      statements = tree.Use (use_of label shape.name ins.connections outs.connections) ∷ [];
      nets = outs.nets;
    }

abbrev pub and_then : Written → (Nets → Written) → Written
and_then first rest = let more = rest first.nets in
    record more { statements = first.statements ++ more.statements }

abbrev pub cell_written : Cell → List ℕ → Option Shape → Nets → Written
cell_written cell label None s = record { statements = []; nets = s }
cell_written cell label (Some shape) s = cell_use cell label shape s

-- the cells, each with its label and the macro that it uses
unfoldable pub cells_written : List Cell → List (List ℕ) → List (Option Shape) → Nets → Written
cells_written [] labels shapes s = record { statements = []; nets = s }
cells_written (c ∷ cs) [] shapes s = record { statements = []; nets = s }
cells_written (c ∷ cs) (label ∷ labels) [] s = record { statements = []; nets = s }
cells_written (c ∷ cs) (label ∷ labels) (shape ∷ shapes) s =
    and_then (cell_written c label shape s) (cells_written cs labels shapes)

-- ---- buffers

abbrev pub is_wire : Wire → Wired → Bool
is_wire w wired.Zero = false
is_wire w wired.One = false
is_wire w (wired.Bit v) = v.net == w.net && v.index == w.index

abbrev pub outlet : Wired → Wire → List Outlet
outlet from to = if is_wire to from then [] else record { from = from; to = to } ∷ []

abbrev pub wire_source : Option Wire → Option Wired
wire_source None = None
wire_source (Some w) = Some (wired.Bit w)

-- what a bit is called, if it is not what nothing drives
abbrev pub source_of : Nets → netlist.Bit → Option Wired
source_of s (bit.Number n) = wire_source (wire_of n s.wires)
source_of s bit.Zero = Some wired.Zero
source_of s bit.One = Some wired.One
source_of s bit.Undriven = None

abbrev pub outlets_from : Wire → Option Wired → List Outlet
outlets_from to None = []
outlets_from to (Some from) = outlet from to

-- No buffer drives what nothing drives, or what is called by the port.
abbrev pub outlets_at : Nets → Wire → netlist.Bit → List Outlet
outlets_at s to b = outlets_from to (source_of s b)

unfoldable pub port_outlets : Nets → ℕ → List (ℕ × netlist.Bit) → List Outlet
port_outlets s net [] = []
port_outlets s net (b ∷ bs) = outlets_at s (record { net = net; index = b.0 }) b.1
    ++ port_outlets s net bs

-- by port, then by index from 0
unfoldable pub all_outlets : Nets → List (ℕ × Port) → List Outlet
all_outlets s [] = []
all_outlets s (p ∷ ps) =
    (if is_same_way p.1.direction Output then port_outlets s p.0 (numbered_from 0 p.1.bits) else [])
    ++ all_outlets s ps

-- without a delay of its own
abbrev pub buffer : List Net → List ℕ → Outlet → tree.Statement
buffer nets label o = tree.Use (record (use_of label (codes "BUF")
    (connection_of nets (o.from ∷ []) ∷ []) (connection_of nets (wired.Bit o.to ∷ []) ∷ [])) {
      delay = Some (number 0, number 0);
    })

unfoldable pub buffers : List Net → List (List ℕ) → List Outlet → List tree.Statement
buffers nets [] os = []
buffers nets (label ∷ labels) [] = []
buffers nets (label ∷ labels) (o ∷ os) = buffer nets label o ∷ buffers nets labels os

-- ---- labels

-- A hidden cell is called `c` and a number.
abbrev pub cell_label : ℕ → Cell → List ℕ
cell_label hidden c = if c.is_hidden then counted (codes "c") hidden else word_of c.name

abbrev pub hidden_after : ℕ → Cell → ℕ
hidden_after hidden c = if c.is_hidden then hidden + 1 else hidden

-- the cells after so many hidden ones
unfoldable pub cell_labels : ℕ → List Cell → List (List ℕ)
cell_labels hidden [] = []
cell_labels hidden (c ∷ cs) = cell_label hidden c ∷ cell_labels (hidden_after hidden c) cs

unfoldable pub buffer_labels : ℕ → List Outlet → List (List ℕ)
buffer_labels n [] = []
buffer_labels n (o ∷ os) = counted (codes "thru") n ∷ buffer_labels (n + 1) os

-- ---- the macro

unfoldable pub listed : List tree.Statement → tree.Statements
listed [] = tree.nil
listed (s ∷ ss) = tree.cons s (listed ss)

abbrev pub formal_range : ℕ → Option tree.Range
formal_range width =
    if nat_lt 1 width then Some (record { first = number (width - 1); last = Some (number 0) }) else
    None

-- the ports of a direction, each with the name that it has in its macro
unfoldable pub formals_named : Direction → List Formal → List (List ℕ) → List tree.Formal
formals_named way [] names = []
formals_named way (f ∷ fs) [] = []
formals_named way (f ∷ fs) (name ∷ names) =
    (if is_same_way f.direction way then record {
      base = name;
      range = formal_range f.width;
    } ∷ [] else [])
    ++ formals_named way fs names

-- a macro without parameters
abbrev pub plain_macro : List ℕ → List tree.Formal → List tree.Formal → tree.Statements → tree.Macro
plain_macro name ins outs body = record {
  name = name;
  params = [];
  ins = ins;
  outs = outs;
  body = body;
  place = nowhere;
}

-- what stands in a macro: its cells, then its buffers
abbrev pub body : Module → List (Option Shape) → tree.Statements
body m shapes =
    let cells = cells_written m.cells (names_after [] (cell_labels 0 m.cells)) shapes (own_nets m)
    in
    let outlets = all_outlets cells.nets (numbered_from 0 m.ports) in
    let labels = names_after (names_after [] (cell_labels 0 m.cells)) (buffer_labels 0 outlets) in
    listed (cells.statements ++ buffers cells.nets.list labels outlets)

-- The ports take the first names among the nets.
abbrev pub macro_of : Shape → Module → List (Option Shape) → tree.Macro
macro_of shape m shapes =
    plain_macro shape.name (formals_named Input shape.ports (own_nets m).taken)
    (formals_named Output shape.ports (own_nets m).taken)
    (body m shapes)
