-- The forms of words that the import has: `import` and `import cells`.
use Rattle.std.specs.Prelude.{ℕ, List, [], ◌∷◌, codes, Result, Ok, Err, if◌then◌else◌}
use Rattle.std.specs.Str.{bytes_eq}
use Rattle.netlist_import.specs.declared.forms.Command.{Command}
use Rattle.netlist_import.specs.declared.forms.Command.TheVariants.{Design, Cells}

-- no word follows those of the form; the first that did would have this number
abbrev pub no_more : Command → ℕ → List (List ℕ) → Result Command ℕ
no_more command place [] = Ok command
no_more command place (w ∷ ws) = Err place

abbrev pub behind_name : List (List ℕ) → Result Command ℕ
behind_name [] = Ok Design
behind_name (w ∷ ws) = if bytes_eq w (codes "cells") then no_more Cells 2 ws else Err 1

-- The form that the words have. Of other words it is the number of the first with which no form
-- goes on, or the count of words if one is missing.
abbrev pub command_of : List (List ℕ) → Result Command ℕ
command_of [] = Err 0
command_of (w ∷ ws) = if bytes_eq w (codes "import") then behind_name ws else Err 0
