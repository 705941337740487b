-- The marks of a picture: what a checker watches, what offends, and the way there. Ticks count as
-- the slots of the view do.
use Rattle.std.specs.Prelude.{◌≡◌, ℕ, ◌≤◌, ◌+◌, ◌-◌, ◌*◌, ◌==◌, ◌&&◌, max, min, nat_le, nat_lt, Bool, true, false, List, [], ◌∷◌, length, codes, slice_index_or, if◌then◌else◌}
use Rattle.std.specs.List.{count_by, flat_map, list_all, list_any}
use Rattle.step_values.specs.declared.value.Value.{Value}
use Rattle.draw_report.specs.declared.mark.Layout.{Layout}
use Rattle.draw_report.specs.declared.mark.Mark.{Mark}
use Rattle.draw_report.specs.declared.mark.Mark.TheVariants.{Arrow, Bad, Change, Distance, Edge, Flag, Note, Window}
use Rattle.draw_report.specs.declared.mark.Side.{Side}
use Rattle.draw_report.specs.declared.mark.Side.TheVariants.{Clock, Data}
use Rattle.draw_report.specs.declared.mark.Slots.{Slots}
use Rattle.draw_report.specs.declared.mark.Span.{Span}
use Rattle.draw_report.specs.declared.mark.Spot.{Spot}
use Rattle.draw_report.specs.declared.shape.Stroke.{Stroke}
use Rattle.draw_report.specs.declared.view.View.{View}
use Rattle.draw_report.specs.Element.{Break, Chars, Label, Link, MovedPath, Node, Number, Text, Word, empty, full, labelled}
use Rattle.draw_report.specs.Shape.{area, shape}
use Rattle.draw_report.specs.View.{after_last, line_x, plot, scale, x_of}
use Rattle.draw_report.specs.Wave.{path}

-- the height of a row, and of a line below the last
abbrev pub y_of : Layout → ℕ → ℕ
y_of l row = 130 + l.pitch * row

abbrev pub distance_y : Layout → ℕ → ℕ
distance_y l line = y_of l (l.rows - 1) + 400 + 170 * line

abbrev pub side_number : Side → ℕ
side_number Data = 0
side_number Clock = 1

-- ---- in a row

-- where slots are drawn, as far as the view shows them
abbrev pub first_shown : View → Slots → ℕ
first_shown v s = max s.from v.first

abbrev pub after_shown : View → Slots → ℕ
after_shown v s = min (s.to + 1) (after_last v)

abbrev pub area_stroke : View → Slots → Stroke
area_stroke v s =
    record {
      x = x_of v (first_shown v s);
      width = scale v * (after_shown v s - first_shown v s);
      is_single = false;
    }

abbrev pub area_path : View → List ℕ → Slots → List Node
area_path v class s =
    if nat_lt (first_shown v s) (after_shown v s)
    then path (Chars class ∷ []) (area (area_stroke v s)) ∷ [] else []

abbrev pub window_in : View → ℕ → Mark → List Node
window_in v row (Window s) = if s.row == row then area_path v (codes "win") s else []
window_in v row (Bad s) = []
window_in v row (Flag r number is_link) = []
window_in v row (Edge tick r other) = []
window_in v row (Change spot value side) = []
window_in v row (Arrow from to side) = []
window_in v row (Note spot text side) = []
window_in v row (Distance span) = []

abbrev pub bad_in : View → ℕ → Mark → List Node
bad_in v row (Window s) = []
bad_in v row (Bad s) = if s.row == row then area_path v (codes "bad") s else []
bad_in v row (Flag r number is_link) = []
bad_in v row (Edge tick r other) = []
bad_in v row (Change spot value side) = []
bad_in v row (Arrow from to side) = []
bad_in v row (Note spot text side) = []
bad_in v row (Distance span) = []

-- the number of a fault, which leads to its picture where that is on the page
abbrev pub flag_number : ℕ → Bool → Node
flag_number number is_link =
    if is_link
    then labelled Link ((Chars (codes "#f") ∷ Number number ∷ []) ∷ [])
    (Chars (codes " ") ∷ Number number ∷ [])
    else Text (Chars (codes " ") ∷ Number number ∷ [])

abbrev pub flag_in : ℕ → Mark → List Node
flag_in row (Window s) = []
flag_in row (Bad s) = []
flag_in row (Flag r number is_link) = if r == row then flag_number number is_link ∷ [] else []
flag_in row (Edge tick r other) = []
flag_in row (Change spot value side) = []
flag_in row (Arrow from to side) = []
flag_in row (Note spot text side) = []
flag_in row (Distance span) = []

abbrev pub is_flag : ℕ → Mark → Bool
is_flag row (Window s) = false
is_flag row (Bad s) = false
is_flag row (Flag r number is_link) = r == row
is_flag row (Edge tick r other) = false
is_flag row (Change spot value side) = false
is_flag row (Arrow from to side) = false
is_flag row (Note spot text side) = false
is_flag row (Distance span) = false

-- the numbers of a row's faults, right of it
abbrev pub flags : View → ℕ → List Mark → List Node
flags v row marks =
    if list_any (is_flag row) marks
    then full Label
    ((Chars (codes "r") ∷ []) ∷ (Number (plot v + 700) ∷ []) ∷ (Chars (codes "160") ∷ []) ∷ [])
    (Text (Chars (codes "fault") ∷ []) ∷ flat_map (flag_in row) marks) ∷ []
    else []

-- ---- over the rows

-- whether the line of a tick is in the view
abbrev pub has_line : View → ℕ → Bool
has_line v tick = nat_le v.first (tick + 1) && nat_le (tick + 1) (after_last v)

-- the edge of a check, from the upper of its rows to the lower; not where the view does not have it
abbrev pub edge_path : View → Layout → ℕ → ℕ → ℕ → List Node
edge_path v l tick row other =
    if has_line v tick
    then path (Chars (codes "edge") ∷ [])
    (Chars (codes "M") ∷ Number (line_x v tick) ∷ Chars (codes " ")
    ∷ Number (y_of l (min row other) - 20) ∷ Chars (codes "V") ∷ Number
    (y_of l (max row other) + 260) ∷ []) ∷ Break ∷ []
    else []

-- a change, in the slot that ends at its tick
abbrev pub change_path : View → Layout → Spot → Value → Side → List Node
change_path v l spot value side =
    empty MovedPath
    ((Chars (codes "st") ∷ Number (side_number side) ∷ [])
    ∷ (Chars (codes "translate(0 ") ∷ Number (y_of l spot.row) ∷ Chars (codes ")") ∷ [])
    ∷ shape value (record { x = x_of v spot.tick; width = scale v; is_single = true }) ∷ [])
    ∷ Break ∷ []

-- below the row that an arrow leaves and above the one that it comes to, or the other way up
abbrev pub leaves : Spot → Spot → ℕ
leaves from to = if nat_lt from.row to.row then 200 else 40

abbrev pub comes : Spot → Spot → ℕ
comes from to = if nat_lt from.row to.row then 25 else 215

abbrev pub arrow_path : View → Layout → Spot → Spot → Side → List Node
arrow_path v l from to side =
    path (Chars (codes "ar") ∷ Number (side_number side) ∷ [])
    (Chars (codes "M") ∷ Number (line_x v from.tick) ∷ Chars (codes " ")
    ∷ Number (y_of l from.row + leaves from to) ∷ Chars (codes "L") ∷ Number (line_x v to.tick)
    ∷ Chars (codes " ") ∷ Number (y_of l to.row + comes from to) ∷ []) ∷ Break ∷ []

-- above a row, or below it
abbrev pub note_y : Layout → Spot → Side → ℕ
note_y l spot Data = y_of l spot.row - 25
note_y l spot Clock = y_of l spot.row + 300

-- how many bytes of a text count for its width
abbrev pub counted_length : List ℕ → ℕ
counted_length text = min (length text) 65536

-- whether a text would end too far on the right
abbrev pub is_far : View → ℕ → List ℕ → Bool
is_far v tick text = nat_lt (plot v + 800) (line_x v tick + 45 + 72 * counted_length text)

abbrev pub note_text : View → Layout → Spot → List ℕ → Side → List Node
note_text v l spot text side =
    (if is_far v spot.tick text
    then labelled Label
    ((Chars (codes "k e") ∷ []) ∷ (Number (line_x v spot.tick - 45) ∷ [])
    ∷ (Number (note_y l spot side) ∷ []) ∷ []) (Chars text ∷ [])
    else labelled Label
    ((Chars (codes "k") ∷ []) ∷ (Number (line_x v spot.tick + 45) ∷ [])
    ∷ (Number (note_y l spot side) ∷ []) ∷ []) (Chars text ∷ []))
    ∷ Break ∷ []

-- from tick to tick with bars at its ends, and its text right of it
abbrev pub distance_words : ℕ → ℕ → ℕ → List Word
distance_words from to y =
    Chars (codes "M") ∷ Number from ∷ Chars (codes " ") ∷ Number y ∷ Chars (codes "H") ∷ Number to
    ∷ Chars (codes "M") ∷ Number from ∷ Chars (codes " ") ∷ Number (y - 40) ∷ Chars (codes "v80M")
    ∷ Number to ∷ Chars (codes " ") ∷ Number (y - 40) ∷ Chars (codes "v80") ∷ []

abbrev pub line_class : Bool → List ℕ
line_class is_bad = if is_bad then codes "has" else codes "dim"

abbrev pub text_class : Bool → List ℕ
text_class is_bad = if is_bad then codes "k r" else codes "k"

abbrev pub distance_nodes : Bool → ℕ → ℕ → ℕ → List ℕ → List Node
distance_nodes is_bad from to y text =
    path (Chars (line_class is_bad) ∷ []) (distance_words from to y)
    ∷ labelled Label
    ((Chars (text_class is_bad) ∷ []) ∷ (Number (to + 45) ∷ [])
    ∷ (Number (y + 35) ∷ []) ∷ []) (Chars text ∷ [])
    ∷ Break ∷ []

abbrev pub distance : View → Layout → Span → List ℕ → List Node
distance v l s text =
    distance_nodes s.is_bad (line_x v s.from) (min (line_x v s.to) (plot v)) (distance_y l s.line)
    text

-- the text of a number; none past the last
abbrev pub text_of : List (List ℕ) → ℕ → List ℕ
text_of texts number = slice_index_or texts number []

abbrev pub mark_nodes : View → Layout → List (List ℕ) → Mark → List Node
mark_nodes v l texts (Window s) = []
mark_nodes v l texts (Bad s) = []
mark_nodes v l texts (Flag r number is_link) = []
mark_nodes v l texts (Edge tick row other) = edge_path v l tick row other
mark_nodes v l texts (Change spot value side) = change_path v l spot value side
mark_nodes v l texts (Arrow from to side) = arrow_path v l from to side
mark_nodes v l texts (Note spot text side) = note_text v l spot (text_of texts text) side
mark_nodes v l texts (Distance s) = distance v l s (text_of texts s.text)

abbrev pub is_distance : Mark → Bool
is_distance (Window s) = false
is_distance (Bad s) = false
is_distance (Flag r number is_link) = false
is_distance (Edge tick r other) = false
is_distance (Change spot value side) = false
is_distance (Arrow from to side) = false
is_distance (Note spot text side) = false
is_distance (Distance s) = true

abbrev pub distance_count : List Mark → ℕ
distance_count marks = count_by is_distance marks

-- ---- what holds of the marks of a picture

-- Its rows are rows of the picture, and its ticks are few enough to be counted.
abbrev pub is_near : ℕ → Bool
is_near tick = nat_lt tick 1073741824

abbrev pub is_within : ℕ → Mark → Bool
is_within rows (Window s) = nat_lt s.row rows && is_near s.to
is_within rows (Bad s) = nat_lt s.row rows && is_near s.to
is_within rows (Flag r number is_link) = nat_lt r rows
is_within rows (Edge tick row other) = is_near tick && (nat_lt row rows && nat_lt other rows)
is_within rows (Change spot value side) = is_near spot.tick && nat_lt spot.row rows
is_within rows (Arrow from to side) =
    (is_near from.tick && nat_lt from.row rows) && (is_near to.tick && nat_lt to.row rows)
is_within rows (Note spot text side) = is_near spot.tick && nat_lt spot.row rows
is_within rows (Distance s) = (is_near s.from && is_near s.to) && nat_lt s.line 65536

-- Marks are few, and on so many rows.
pub record AreOn (rows : ℕ) (marks : List Mark) : Type 0 where
  pub on : list_all (is_within rows) marks ≡ true
  pub few : length marks ≤ 65536
