-- The whole dump of a run: its head, a variable for each stretch, and what changes at which tick.
use Rattle.std.specs.Prelude.{ℕ, ◌-◌, Bool, List, [], ◌∷◌, ◌++◌, length, map, codes}
use Rattle.std.specs.List.{concat, flat_map}
use Rattle.flat_circuit.specs.Circuit.{Circuit}
use Rattle.trace_tool.specs.declared.stretch.Stretch.{Stretch}
use Rattle.trace_tool.specs.declared.tick.TickLength.{TickLength}
use Rattle.trace_tool.specs.Tick.{count_text, unit_text}
use Rattle.trace_tool.specs.Name.{name_of, scopes_of}
use Rattle.trace_tool.specs.Stretch.{stretches}
use Rattle.trace_tool.specs.Variable.{variable_line}
use Rattle.trace_tool.specs.Scope.{moves, open_line, scopes_before}
use Rattle.trace_tool.specs.Change.{Command, End, Start, Time, command_text, later_commands, value_of}

-- ---- what is declared

abbrev pub timescale_line : TickLength → List ℕ
timescale_line tick =
    concat (codes "$timescale " ∷ count_text tick.count ∷ codes " " ∷ unit_text tick.unit
    ∷ codes " $end\n" ∷ [])

unfoldable pub head_text : TickLength → List ℕ → List ℕ
head_text tick name = timescale_line tick ++ open_line name

-- a stretch, in the scopes of its name
abbrev pub declared_text : Circuit → Stretch → List ℕ
declared_text c s =
    moves (scopes_before c s.from) (scopes_of (name_of c s.from).text) ++ variable_line c s

-- after the last all scopes are closed, and then that of the drawing
unfoldable pub tail_text : Circuit → List ℕ
tail_text c =
    moves (scopes_before c (length c.nets)) [] ++ codes "$upscope $end\n$enddefinitions $end\n"

unfoldable pub declarations : TickLength → List ℕ → Circuit → List ℕ
declarations tick name c =
    concat (head_text tick name ∷ flat_map (declared_text c) (stretches c) ∷ tail_text c ∷ [])

-- ---- what changes

abbrev pub texts : List Command → List ℕ
texts commands = flat_map command_text commands

-- every value at tick 0
unfoldable pub start_commands : Circuit → List (List Bool) → List Command
start_commands c rows = Time 0 ∷ Start ∷ (map (value_of c rows 0) (stretches c) ++ End ∷ [])

-- then what changes, and at last the number of ticks
unfoldable pub changes : Circuit → List (List Bool) → ℕ → List Command
changes c rows ticks =
    start_commands c rows
    ++ (later_commands c rows (stretches c) 1 (ticks - 1) ++ Time ticks ∷ [])

unfoldable pub dump_text : TickLength → List ℕ → Circuit → List (List Bool) → ℕ → List ℕ
dump_text tick name c rows ticks = declarations tick name c ++ texts (changes c rows ticks)
