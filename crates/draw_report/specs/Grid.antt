-- The grid of ticks. The line of a tick is the right end of its slot, so it stands where the slot
-- after it begins; lines count by that slot.
use Rattle.std.specs.Prelude.{ℕ, ◌+◌, ◌-◌, ◌*◌, ◌/◌, ◌%◌, ◌==◌, ◌&&◌, not, nat_le, nat_lt, Bool, List, [], ◌∷◌, ◌++◌, codes, if◌then◌else◌}
use Rattle.std.specs.List.{flat_map, list_any, range_with_len}
use Rattle.draw_report.specs.declared.grid.Ruled.{Ruled}
use Rattle.draw_report.specs.declared.grid.Ruled.TheVariants.{Periods, Steps, Units}
use Rattle.draw_report.specs.declared.view.View.{View}
use Rattle.draw_report.specs.Element.{Chars, Label, Node, Number, Word, labelled}
use Rattle.draw_report.specs.View.{after_last, scale, x_of}
use Rattle.draw_report.specs.Wave.{path}

-- the first step of which at most 16 make so many slots
abbrev pub step_among : ℕ → List ℕ → ℕ
step_among count [] = 10000
step_among count (s ∷ ss) = if nat_le count (16 * s) then s else step_among count ss

-- between how many ticks there is a line and a number
abbrev pub step : View → ℕ
step v =
    step_among v.count
    (1 ∷ 2 ∷ 5 ∷ 10 ∷ 20 ∷ 50 ∷ 100 ∷ 200 ∷ 500 ∷ 1000 ∷ 2000 ∷ 5000 ∷ [])

abbrev pub shows_units : View → Bool
shows_units v = nat_le v.count (32 * v.unit)

abbrev pub lines : View → List ℕ
lines v = range_with_len v.first (v.count + 1)

-- ---- the tick of a line, as a reader sees it: so many earlier as the view is moved

-- whether it is not before tick 0
abbrev pub has_number : View → ℕ → Bool
has_number v line = nat_lt v.moved line

abbrev pub tick_of : View → ℕ → ℕ
tick_of v line = line - (v.moved + 1)

-- its rest after whole multiples of a number, which goes on before tick 0
abbrev pub tick_modulo : View → ℕ → ℕ → ℕ
tick_modulo v line n = (line + (n - (v.moved + 1) % n)) % n

abbrev pub phase : View → ℕ → ℕ
phase v line = tick_modulo v line v.period

-- ---- which lines there are: of periods, of units, and of steps

abbrev pub is_period : View → ℕ → Bool
is_period v line = phase v line == 0

abbrev pub is_unit : View → ℕ → Bool
is_unit v line = not (is_period v line) && (shows_units v && (phase v line % v.unit == 0))

abbrev pub is_step : View → ℕ → Bool
is_step v line =
    (not (is_period v line) && not (is_unit v line)) && (tick_modulo v line (step v) == 0)

abbrev pub is_ruled : Ruled → View → ℕ → Bool
is_ruled Periods v line = is_period v line
is_ruled Units v line = is_unit v line
is_ruled Steps v line = is_step v line

abbrev pub class_of : Ruled → List ℕ
class_of Periods = codes "p"
class_of Units = codes "u"
class_of Steps = codes "g"

abbrev pub line_words : View → ℕ → ℕ → List Word
line_words v height line =
    Chars (codes "M") ∷ Number (x_of v line) ∷ Chars (codes " 0v") ∷ Number height ∷ []

abbrev pub ruled_words : View → ℕ → Ruled → ℕ → List Word
ruled_words v height ruled line = if is_ruled ruled v line then line_words v height line else []

-- one path of all lines of a kind, if there are some
abbrev pub ruled_path : View → ℕ → Ruled → List Node
ruled_path v height ruled =
    if list_any (is_ruled ruled v) (lines v)
    then path (Chars (class_of ruled) ∷ []) (flat_map (ruled_words v height ruled) (lines v)) ∷ []
    else []

-- ---- numbers

abbrev pub text_at : List Word → List Word → List ℕ → List Word → Node
text_at class x y text = labelled Label (class ∷ x ∷ (Chars y ∷ []) ∷ []) text

abbrev pub head_at : List ℕ → List ℕ → Node
head_at y text =
    text_at (Chars (codes "q e") ∷ []) (Chars (codes "-200") ∷ []) y (Chars text ∷ [])

abbrev pub number_at : ℕ → List ℕ → ℕ → Node
number_at x y n = text_at (Chars (codes "q m") ∷ []) (Number x ∷ []) y (Number n ∷ [])

abbrev pub has_tick : View → ℕ → Bool
has_tick v line = has_number v line && (tick_of v line % step v == 0)

abbrev pub tick_at : View → ℕ → List Node
tick_at v line =
    if has_tick v line then number_at (x_of v line) (codes "-40") (tick_of v line) ∷ [] else []

abbrev pub tick_numbers : View → List Node
tick_numbers v = head_at (codes "-40") (codes "tick") ∷ flat_map (tick_at v) (lines v)

-- a unit that begins at a line, and has more than its first tick in the view
abbrev pub begins_unit : View → ℕ → Bool
begins_unit v line =
    (shows_units v && has_number v line)
    && ((phase v line % v.unit == 0) && nat_le (line + v.unit) (after_last v))

-- its number, in its middle
abbrev pub unit_at : View → ℕ → List Node
unit_at v line =
    if begins_unit v line
    then number_at (x_of v line + (scale v * v.unit) / 2) (codes "-170")
    (phase v line / v.unit) ∷ []
    else []

abbrev pub unit_numbers : View → List Node
unit_numbers v =
    if list_any (begins_unit v) (lines v)
    then head_at (codes "-170") (codes "unit") ∷ flat_map (unit_at v) (lines v)
    else []

-- ---- the grid, so high

abbrev pub grid_nodes : View → ℕ → List Node
grid_nodes v height =
    ruled_path v height Steps
    ++ (ruled_path v height Units
    ++ (ruled_path v height Periods ++ (tick_numbers v ++ unit_numbers v)))
