-- Scopes, which are opened and closed as the path changes.
use Rattle.std.specs.Prelude.{ℕ, ◌-◌, ◌==◌, List, [], ◌∷◌, ◌++◌, codes, if◌then◌else◌}
use Rattle.std.specs.List.{concat, flat_map}
use Rattle.std.specs.Str.{bytes_eq}
use Rattle.flat_circuit.specs.Circuit.{Circuit}
use Rattle.trace_tool.specs.Name.{name_of, scopes_of}
use Rattle.trace_tool.specs.Variable.{reference}

abbrev pub open_line : List ℕ → List ℕ
open_line scope = concat (codes "$scope module " ∷ reference scope ∷ codes " $end\n" ∷ [])

abbrev pub close_line : List ℕ → List ℕ
close_line scope = codes "$upscope $end\n"

abbrev pub both_moves : List (List ℕ) → List (List ℕ) → List ℕ
both_moves from to = flat_map close_line from ++ flat_map open_line to

-- from the scopes of one net to those of another: what they share stays open
abbrev pub moves : List (List ℕ) → List (List ℕ) → List ℕ
moves [] to = both_moves [] to
moves (p ∷ ps) [] = both_moves (p ∷ ps) []
moves (p ∷ ps) (q ∷ qs) =
    if bytes_eq p q then moves ps qs else both_moves (p ∷ ps) (q ∷ qs)

-- the scopes of the net before a place, which has none before the first
abbrev pub scopes_before : Circuit → ℕ → List (List ℕ)
scopes_before c place = if place == 0 then [] else scopes_of (name_of c (place - 1)).text
