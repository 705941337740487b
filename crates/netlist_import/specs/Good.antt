-- What holds of the macros that a netlist becomes.
use Rattle.std.specs.Prelude.{◌≡◌, ℕ, ◌+◌, ◌<◌, ◌^◌, ◌++◌, List, [], length, map, slice_get, All, Some, Option}
use Rattle.drawing_tree.specs.Tree as tree
use Rattle.drawing_tree.specs.WellFormed.{AreDifferent, IsFreeWord, labels, primitive_names}
use Rattle.netlist_import.specs.declared.netlist.Module.{Module}
use Rattle.netlist_import.specs.Fresh.{names_after}
use Rattle.netlist_import.specs.Nets.{numbered_from, own_nets, wire_of}
use Rattle.netlist_import.specs.declared.nets.Nets.{Nets}
use Rattle.netlist_import.specs.Body.{all_outlets, cell_labels, cells_written, macro_of}
use Rattle.netlist_import.specs.Design.{empty_macro}
use Rattle.netlist_import.specs.Kinds.{formals_of}
use Rattle.netlist_import.specs.Shapes.{shapes}
use Rattle.netlist_import.specs.declared.nets.Net.{Net}
use Rattle.netlist_import.specs.declared.nets.Wire.{Wire}
use Rattle.netlist_import.specs.declared.outlets.Outlet.{Outlet}
use Rattle.netlist_import.specs.declared.shapes.Shape.{Shape}

-- ---- what macros are called

-- Each is a word that is not reserved. None stands twice, and none is the name of a primitive.
pub record AreMacroNames (names : List (List ℕ)) : Type 0 where
  pub words : All IsFreeWord names
  pub different : AreDifferent (primitive_names ++ names)

-- The macros of all modules, and of all kinds of cells that no module is, are called so.
abbrev pub MacrosAreNamed : Type 0
MacrosAreNamed = (ms : List Module) → length (shapes ms) < 2 ^ 64 →
    AreMacroNames (map (λ s. s.name) (shapes ms))

-- ---- what a macro declares

-- No two cells have one label, and no two ports one name.
pub record DeclaresOnce (m : tree.Macro) : Type 0 where
  pub cells_differ : AreDifferent (labels m.body)
  pub ports_differ : AreDifferent (map (λ f. f.base) (m.ins ++ m.outs))

-- what the output ports of a module lead out
abbrev pub outlets_of : Module → List (Option Shape) → List Outlet
outlets_of m used =
    all_outlets (cells_written m.cells (names_after [] (cell_labels 0 m.cells)) used
    (own_nets m)).nets
    (numbered_from 0 m.ports)

pub record IsModest (m : Module) (used : List (Option Shape)) : Type 0 where
  pub cells : length m.cells + length (outlets_of m used) < 2 ^ 64
  pub nets : length m.ports + length m.nets < 2 ^ 64

-- So it is of the macro that a module becomes, whichever macros its cells use.
abbrev pub ModulesDeclareOnce : Type 0
ModulesDeclareOnce =
    (shape : Shape) (m : Module) (used : List (Option Shape)) → IsModest m used →
    DeclaresOnce (macro_of shape m used)

-- Each label and each port is a word that is not reserved.
pub record DeclaresWords (m : tree.Macro) : Type 0 where
  pub labels_free : All IsFreeWord (labels m.body)
  pub ports_free : All IsFreeWord (map (λ f. f.base) (m.ins ++ m.outs))

-- So it is of the macro that a module becomes with its own ports, whatever its name.
abbrev pub ModulesDeclareWords : Type 0
ModulesDeclareWords =
    (name : List ℕ) (m : Module) (used : List (Option Shape)) → IsModest m used →
    DeclaresWords (macro_of (record { name = name; ports = formals_of m.ports }) m used)

-- So it is of a macro that is still to be filled in.
abbrev pub CellsDeclareWords : Type 0
CellsDeclareWords = (shape : Shape) → length shape.ports < 2 ^ 64 → DeclaresWords (empty_macro shape)

-- ---- what bits are called

-- Two bits that are called by one bit of one net are one number.
pub record TellsApart (s : Nets) : Type 0 where
  pub one : (n k : ℕ) (w : Wire) → wire_of n s.wires ≡ Some w → wire_of k s.wires ≡ Some w → n ≡ k

-- So it is of the bits in the connections of a module's cells.
abbrev pub BitsAreToldApart : Type 0
BitsAreToldApart =
    (m : Module) (names : List (List ℕ)) (used : List (Option Shape)) →
    TellsApart (cells_written m.cells names used (own_nets m)).nets

-- Two bits that are called by one name and one index are one number.
pub record NamesTellBits (s : Nets) : Type 0 where
  pub one : (n k : ℕ) (v w : Wire) (x y : Net) → wire_of n s.wires ≡ Some v →
      wire_of k s.wires ≡ Some w → slice_get s.list v.net ≡ Some x →
      slice_get s.list w.net ≡ Some y → x.name ≡ y.name → v.index ≡ w.index → n ≡ k

-- So it is of the bits in the connections of a module's cells, if its nets take fewer than 2^64
-- names.
abbrev pub NamesTellBitsApart : Type 0
NamesTellBitsApart =
    (m : Module) (labels : List (List ℕ)) (used : List (Option Shape)) →
    length (cells_written m.cells labels used (own_nets m)).nets.taken < 2 ^ 64 →
    NamesTellBits (cells_written m.cells labels used (own_nets m)).nets
