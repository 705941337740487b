-- Whole pictures.
use Rattle.std.specs.Prelude.{◌≡◌, ℕ, ◌+◌, ◌*◌, ◌/◌, ◌^◌, ◌<◌, ◌≤◌, ◌||◌, max, nat_lt, Bool, List, [], ◌∷◌, ◌++◌, length, map, codes, decimal, fold, if◌then◌else◌, Option, Some, None, IfSome}
use Rattle.std.specs.List.{concat, flat_map, sum_by, zip}
use Rattle.step_values.specs.declared.value.Value.{Value}
use Rattle.skew_algebra.specs.Wave.{Wave}
use Rattle.scald_base.specs.Time.{period}
use Rattle.flat_circuit.specs.Name.{net_at}
use Rattle.flat_circuit.specs.Circuit.{Circuit}
use Rattle.fixpoint_engine.specs.Waves.{Waves}
use Rattle.draw_report.specs.declared.mark.Layout.{Layout}
use Rattle.draw_report.specs.declared.mark.Mark.{Mark}
use Rattle.draw_report.specs.declared.case.CaseHead.{CaseHead}
use Rattle.draw_report.specs.declared.picture.Frame.{Frame}
use Rattle.draw_report.specs.declared.sketch.Sketch.{Sketch as Drawn}
use Rattle.draw_report.specs.declared.row.Row.{Row}
use Rattle.draw_report.specs.declared.view.View.{View}
use Rattle.draw_report.specs.Element.{Break, Chars, Group, Label, Look, Node, Number, Rect, Style, Svg, Title, Word, all_written, begun_text, empty, ended_text, full, labelled, node_onto}
use Rattle.draw_report.specs.Defs.{defs}
use Rattle.draw_report.specs.View.{IsView, plot}
use Rattle.draw_report.specs.Wave.{late_paths, run_words, runs_from, shaded_paths, wave_paths}
use Rattle.draw_report.specs.Row.{label, shown, shown_length}
use Rattle.draw_report.specs.Grid.{grid_nodes}
use Rattle.draw_report.specs.Mark.{AreOn, bad_in, counted_length, distance_count, flags, mark_nodes, window_in, y_of}
use Rattle.draw_report.specs.Caption.{AreShort, caption_nodes}

-- What a picture shows: the part of the time line, how its rows are laid out, the heading, the rows
-- with their labels and waves, the marks with their texts, and the lines below.
pub record Sketch : Type 0 where
  pub view : View
  pub pitch : ℕ
  pub heading : List ℕ
  pub labels : List (List ℕ)
  pub waves : List (Wave Value)
  pub marks : List Mark
  pub texts : List (List ℕ)
  pub caption : List (List ℕ)
  pub page : Option ℕ

abbrev pub layout_of : Sketch → Layout
layout_of s = record { rows = length s.waves; pitch = s.pitch }

-- It has a label for each row, its marks are on its rows, and there are few of each.
pub record IsSketch (s : Sketch) : Type 0 where
  pub view : IsView s.view
  pub labels : length s.labels ≡ length s.waves
  pub rows : length s.waves ≤ 8192
  pub pitch : s.pitch ≤ 470
  pub marks : AreOn (length s.waves) s.marks
  pub few_lines : length s.caption ≤ 65536
  pub short_lines : AreShort s.caption
  pub room : IfSome s.page (λ room. room < 2 ^ 32)

-- ---- a row

-- what a skew adds
abbrev pub if_skewed : Wave Value → List Node → List Node
if_skewed w ns = if nat_lt 0 w.skew then ns else []

abbrev pub skew_texts : View → ℕ → List Node
skew_texts v skew =
    if nat_lt 0 skew
    then labelled Label
    ((Chars (codes "q") ∷ []) ∷ (Number (plot v + 60) ∷ []) ∷ (Chars (codes "155") ∷ []) ∷ [])
    (Chars (codes "skew ") ∷ Number skew ∷ []) ∷ []
    else []

-- the row's line in the report
abbrev pub title : List ℕ → Wave Value → Node
title name w =
    labelled Title []
    (Chars name ∷ Chars (codes " SKEW ") ∷ Number w.skew
    ∷ flat_map run_words (runs_from w.cells 0 (length w.cells)))

abbrev pub label_text : List ℕ → Node
label_text name =
    labelled Label
    ((Chars (codes "e") ∷ []) ∷ (Chars (codes "-60") ∷ []) ∷ (Chars (codes "160") ∷ []) ∷ [])
    (shown name)

-- from the back to the front
abbrev pub row_nodes : View → List Mark → ℕ → Wave Value → List Node
row_nodes v marks place w =
    if_skewed w (shaded_paths v w)
    ++ (flat_map (window_in v place) marks
    ++ (if_skewed w (late_paths v w)
    ++ (wave_paths v w.cells
    ++ (flat_map (bad_in v place) marks
    ++ (skew_texts v w.skew ++ flags v place marks)))))

abbrev pub moved_down : ℕ → List (List Word)
moved_down y = (Chars (codes "translate(0 ") ∷ Number y ∷ Chars (codes ")") ∷ []) ∷ []

abbrev pub row_group : View → Layout → List Mark → ℕ → List ℕ → Wave Value → List Node
row_group v l marks place name w =
    full Group (moved_down (y_of l place))
    (title name w ∷ label_text name ∷ row_nodes v marks place w) ∷ Break ∷ []

-- from a place on
abbrev pub row_groups : View → Layout → List Mark → ℕ → List (List ℕ × Wave Value) → List Node
row_groups v l marks place [] = []
row_groups v l marks place (r ∷ rs) =
    row_group v l marks place r.0 r.1 ++ row_groups v l marks (place + 1) rs

-- ---- the whole

-- as wide as the longest label that is shown, and no narrower than eight bytes
abbrev pub longest : ℕ → List (List ℕ) → ℕ
longest least texts = fold (λ (most : ℕ) (text : List ℕ). max most (counted_length text)) least
    texts

abbrev pub longest_shown : List (List ℕ) → ℕ
longest_shown labels = fold (λ (most : ℕ) (text : List ℕ). max most (shown_length text)) 8 labels

abbrev pub label_room : List (List ℕ) → ℕ
label_room labels = 72 * longest_shown labels + 160

-- that of the page, if it is more
abbrev pub room_in : Option ℕ → ℕ → ℕ
room_in None own = own
room_in (Some room) own = max room own

abbrev pub sketch_room : Sketch → ℕ
sketch_room s = room_in s.page (label_room s.labels)

-- the rows and the distances below them
abbrev pub grid_of : Layout → List Mark → ℕ
grid_of l marks = y_of l l.rows + 170 * distance_count marks

abbrev pub width_of : ℕ → ℕ → List ℕ → List (List ℕ) → ℕ
width_of room plot heading lines =
    max (room + plot + 1300) (120 + 72 * longest (counted_length heading) lines)

abbrev pub height_of : ℕ → List (List ℕ) → ℕ
height_of grid lines = 600 + grid + 60 + 165 * length lines

abbrev pub grid_height : Sketch → ℕ
grid_height s = grid_of (layout_of s) s.marks

abbrev pub full_width : Sketch → ℕ
full_width s = width_of (sketch_room s) (plot s.view) s.heading s.caption

abbrev pub full_height : Sketch → ℕ
full_height s = height_of (grid_height s) s.caption

abbrev pub size : ℕ → ℕ → List (List Word)
size w h =
    (Chars (codes "http://www.w3.org/2000/svg") ∷ []) ∷ (Number (w / 10) ∷ [])
    ∷ (Number (h / 10) ∷ [])
    ∷ (Chars (codes "0 0 ") ∷ Number w ∷ Chars (codes " ") ∷ Number h ∷ []) ∷ []

abbrev pub background : ℕ → ℕ → Node
background w h =
    empty Rect ((Chars (codes "bg") ∷ []) ∷ (Number w ∷ []) ∷ (Number h ∷ []) ∷ [])

abbrev pub heading_text : List ℕ → Node
heading_text text =
    labelled Label
    ((Chars (codes "h") ∷ []) ∷ (Chars (codes "60") ∷ []) ∷ (Chars (codes "190") ∷ []) ∷ [])
    (Chars text ∷ [])

-- how it looks, which a page says once
abbrev pub looks : Option ℕ → List Node
looks None = full Style [] (Look ∷ []) ∷ Break ∷ defs ∷ Break ∷ []
looks (Some room) = []

-- before the plot
abbrev pub front : Option ℕ → ℕ → ℕ → List ℕ → List Node
front page w h heading =
    Break ∷ labelled Title [] (Chars heading ∷ [])
    ∷ Break ∷ (looks page ++ (background w h ∷ Break ∷ heading_text heading ∷ Break ∷ []))

-- the grid, the rows and what stands over them
abbrev pub plotted : Sketch → List Node
plotted s =
    Break ∷ (grid_nodes s.view (grid_height s)
    ++ (Break ∷ (row_groups s.view (layout_of s) s.marks 0 (zip s.labels s.waves)
    ++ flat_map (mark_nodes s.view (layout_of s) s.texts) s.marks)))

abbrev pub moved_right : ℕ → List (List Word)
moved_right x = (Chars (codes "translate(") ∷ Number x ∷ Chars (codes " 600)") ∷ []) ∷ []

abbrev pub within : Sketch → List Node
within s =
    front s.page (full_width s) (full_height s) s.heading
    ++ (full Group (moved_right (sketch_room s)) (plotted s)
    ∷ Break ∷ caption_nodes (600 + grid_height s) s.caption)

abbrev pub picture_node : Sketch → Node
picture_node s = full Svg (size (full_width s) (full_height s)) (within s)

-- The picture of a sketch: a document of XML.
abbrev pub picture : Sketch → List ℕ
picture s = node_onto (picture_node s) (10 ∷ [])

-- ---- in three parts: up to the plot, the plot, and what follows

abbrev pub head_text : Option ℕ → ℕ → ℕ → ℕ → List ℕ → List ℕ
head_text page w h x heading =
    begun_text Svg (size w h)
    ++ (all_written (front page w h heading) ++ begun_text Group (moved_right x))

abbrev pub tail_text : ℕ → List (List ℕ) → List ℕ
tail_text y lines =
    (ended_text Group ++ 10 ∷ [])
    ++ (all_written (caption_nodes y lines) ++ (ended_text Svg ++ 10 ∷ []))

-- ---- the picture of a case

abbrev pub case_text : Option ℕ → List ℕ
case_text None = []
case_text (Some k) = concat (codes "case " ∷ decimal k ∷ codes ": " ∷ [])

abbrev pub case_heading : Circuit → CaseHead → List ℕ
case_heading c h =
    concat (case_text h.number ∷ decimal (length c.nets) ∷ codes " nets, period "
    ∷ decimal (period c.header) ∷ codes ", two periods; holds from tick " ∷ decimal h.tick
    ∷ codes " on" ∷ [])

-- two periods, from slot 0 on
abbrev pub case_view : Circuit → View
case_view c =
    record {
      first = 0;
      count = 2 * period c.header;
      period = period c.header;
      unit = c.header.ticks;
      moved = 0;
    }

-- the wave of a row: that of its first net
abbrev pub wave_of : Circuit → Waves → Row → Wave Value
wave_of c ws r = ws (net_at c.order r.from)

-- the waves of rows
abbrev pub row_waves : Circuit → Waves → List Row → List (Wave Value)
row_waves c ws rows = map (wave_of c ws) rows

-- the sketch of rows of a case with these waves
abbrev pub row_sketch : Circuit → List Row → List (Wave Value) → CaseHead → List Mark →
    Option ℕ → Sketch
row_sketch c rows ws head marks page =
    record {
      view = case_view c;
      pitch = 270;
      heading = case_heading c head;
      labels = map (label c) rows;
      waves = ws;
      marks = marks;
      texts = [];
      caption = [];
      page = page;
    }

-- the sketch of rows of a case with the waves that they have there
abbrev pub case_sketch : Circuit → Waves → List Row → CaseHead → List Mark → Option ℕ → Sketch
case_sketch c ws rows head marks page = row_sketch c rows (row_waves c ws rows) head marks page

-- ---- how much is drawn

-- how many runs so many slots of waves have
abbrev pub run_count : ℕ → List (Wave Value) → ℕ
run_count count ws = sum_by (λ (w : Wave Value). length (runs_from w.cells 0 count)) ws

abbrev pub are_many_runs : ℕ → List (Wave Value) → Bool
are_many_runs count ws = nat_lt 262144 (run_count count ws)

-- more than 8,192 rows, or 262,144 runs
abbrev pub are_many : Circuit → Waves → List Row → Bool
are_many c ws rows =
    nat_lt 8192 (length rows) || are_many_runs (2 * period c.header) (row_waves c ws rows)

-- The picture of rows of a case with these waves and marks, unless it is too much.
abbrev pub case_drawn : Circuit → Waves → List Row → CaseHead → List Mark → Option ℕ →
    Option (List ℕ)
case_drawn c ws rows head marks page =
    if are_many c ws rows then None
    else Some (picture (case_sketch c ws rows head marks page))

-- ---- in the program

abbrev pub frame_of : Drawn → Layout → Frame
frame_of d l =
    record {
      left = room_in d.page (label_room d.labels.now);
      width = width_of (room_in d.page (label_room d.labels.now)) (plot d.view) d.heading.now
          d.caption.now;
      height = height_of (grid_of l d.marks.now) d.caption.now;
      grid = grid_of l d.marks.now;
    }

abbrev pub sketched : Drawn → List (Wave Value) → Sketch
sketched d ws =
    record {
      view = d.view;
      pitch = d.pitch;
      heading = d.heading.now;
      labels = d.labels.now;
      waves = ws;
      marks = d.marks.now;
      texts = d.texts.now;
      caption = d.caption.now;
      page = d.page;
    }
