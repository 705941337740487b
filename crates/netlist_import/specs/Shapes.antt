-- The macros of a netlist, each with its name and its ports: those of all modules, then those of
-- all kinds of cells that no module is.
use Rattle.std.specs.Prelude.{ℕ, ◌+◌, List, [], ◌∷◌, ◌++◌, length, map, Option, slice_get}
use Rattle.netlist_import.specs.declared.netlist.Module.{Module}
use Rattle.netlist_import.specs.Words.{kind_word_of}
use Rattle.netlist_import.specs.Fresh.{names_after}
use Rattle.netlist_import.specs.Kinds.{formals_of, Used, a_module, a_kind, all_kinds}
use Rattle.netlist_import.specs.declared.shapes.Formal.{Formal}
use Rattle.netlist_import.specs.declared.shapes.Shape.{Shape}

-- the words that are wanted
abbrev pub words_wanted : List Module → List (List ℕ)
words_wanted ms = map (λ m. kind_word_of m.name) ms ++ map (λ k. kind_word_of k.kind) (all_kinds ms)

abbrev pub ports_wanted : List Module → List (List Formal)
ports_wanted ms = map (λ m. formals_of m.ports) ms ++ map (λ k. k.ports) (all_kinds ms)

unfoldable pub shaped : List (List ℕ) → List (List Formal) → List Shape
shaped [] ports = []
shaped (name ∷ names) [] = []
shaped (name ∷ names) (ps ∷ ports) = record { name = name; ports = ps } ∷ shaped names ports

abbrev pub shapes : List Module → List Shape
shapes ms = shaped (names_after [] (words_wanted ms)) (ports_wanted ms)

-- the number among them of what a cell uses
abbrev pub number_of_used : List Module → Used → ℕ
number_of_used ms (a_module place) = place
number_of_used ms (a_kind place) = length ms + place

abbrev pub shape_used : List Module → Used → Option Shape
shape_used ms used = slice_get (shapes ms) (number_of_used ms used)
