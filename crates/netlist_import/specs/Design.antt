-- The macros that a netlist becomes, and their text.
use Rattle.std.specs.Prelude.{ℕ, ◌&&◌, List, [], ◌∷◌, ◌++◌, length, map, drop, slice_get, if◌then◌else◌}
use Rattle.std.specs.List.{flat_map}
use Rattle.drawing_tree.specs.Tree as tree
use Rattle.drawing_tree.specs.Canonical.{macro_lines}
use Rattle.netlist_import.specs.declared.netlist.Direction.TheVariants.{Input, Output}
use Rattle.netlist_import.specs.declared.netlist.Module.{Module}
use Rattle.netlist_import.specs.Fault.{is_used}
use Rattle.netlist_import.specs.Words.{word_of}
use Rattle.netlist_import.specs.Fresh.{names_after}
use Rattle.netlist_import.specs.Kinds.{all_uses}
use Rattle.netlist_import.specs.Shapes.{shapes, number_of_used}
use Rattle.netlist_import.specs.Body.{formals_named, macro_of, plain_macro}
use Rattle.netlist_import.specs.declared.shapes.Formal.{Formal}
use Rattle.netlist_import.specs.declared.shapes.Shape.{Shape}

-- ---- the design

-- the modules that are no black boxes, each with its macro and with the numbers of the macros that
-- its cells use among all of them
unfoldable pub modules_written : List Shape → List Module → List Shape → List (List ℕ) →
    List tree.Macro
modules_written all [] shapes targets = []
modules_written all (m ∷ rest) [] targets = []
modules_written all (m ∷ rest) (shape ∷ shapes) [] = []
modules_written all (m ∷ rest) (shape ∷ shapes) (used ∷ targets) =
    (if m.is_black_box then [] else macro_of shape m (map (slice_get all) used) ∷ [])
    ++ modules_written all rest shapes targets

abbrev pub design_macros : List Module → List tree.Macro
design_macros ms = modules_written (shapes ms) ms (shapes ms)
    (map (map (number_of_used ms)) (all_uses ms))

-- ---- the cells

abbrev pub formal_names : List Formal → List (List ℕ)
formal_names fs = names_after [] (map (λ f. word_of f.name) fs)

-- a macro with nothing in it
abbrev pub empty_macro : Shape → tree.Macro
empty_macro shape =
    plain_macro shape.name (formals_named Input shape.ports (formal_names shape.ports))
    (formals_named Output shape.ports (formal_names shape.ports)) tree.nil

-- the macros of the black boxes that some cell uses
unfoldable pub boxes_written : List Module → List Module → List Shape → List tree.Macro
boxes_written ms [] shapes = []
boxes_written ms (m ∷ rest) [] = []
boxes_written ms (m ∷ rest) (shape ∷ shapes) =
    (if m.is_black_box && is_used ms m.name then empty_macro shape ∷ [] else [])
    ++ boxes_written ms rest shapes

-- The kinds of cells come first.
abbrev pub cell_macros : List Module → List tree.Macro
cell_macros ms = map empty_macro (drop (length ms) (shapes ms)) ++ boxes_written ms ms (shapes ms)

-- ---- their text

abbrev pub macros_text : List tree.Macro → List ℕ
macros_text macros = flat_map macro_lines macros
