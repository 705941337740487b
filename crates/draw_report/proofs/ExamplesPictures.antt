-- Texts of small pictures, worked out on paper.
use Rattle.std.specs.Prelude.{◌≡◌, ℕ, ◌++◌, ◌==◌, ◌||◌, true, false, List, [], ◌∷◌, codes, map, replicate}
use Rattle.std.specs.List.{flat_map, range_with_len}
use Rattle.std.specs.Fmt.{digits}
use Rattle.std.proofs.Common.{refl}
use Rattle.step_values.specs.declared.value.Value.{Value}
use Rattle.step_values.specs.declared.value.Value.TheVariants.{Zero, S, C, R, F}
use Rattle.scald_base.specs.Clock.{back}
use Rattle.wave_core.specs.Slots.{earlier}
use Rattle.skew_algebra.specs.Wave.{Wave, skewed}
use Rattle.draw_report.specs.declared.mark.Layout.{Layout}
use Rattle.draw_report.specs.declared.mark.Mark.{Mark}
use Rattle.draw_report.specs.declared.mark.Mark.TheVariants.{Bad, Change, Distance, Edge, Note, Window}
use Rattle.draw_report.specs.declared.mark.Side.TheVariants.{Clock, Data}
use Rattle.draw_report.specs.declared.view.View.{View}
use Rattle.draw_report.specs.Element.{Chars, Label, all_written, escaped, labelled, tree_of, words_text, written}
use Rattle.draw_report.specs.View.{scale}
use Rattle.draw_report.specs.Wave.{late_paths, runs_from, shaded_paths, steps_of, wave_paths}
use Rattle.draw_report.specs.Shown.{shown_by}
use Rattle.draw_report.specs.Row.{bits_text, cut_all, one_row, shown, shown_length}
use Rattle.draw_report.specs.Grid.{grid_nodes, step}
use Rattle.draw_report.specs.Mark.{distance_count, is_within, mark_nodes}
use Rattle.draw_report.specs.Caption.{begins, line_nodes, part_length}
use Rattle.draw_report.specs.Picture.{row_group}
use Rattle.draw_report.specs.Xml.{is_name, is_plain, is_plain_text}

abbrev view : ℕ → ℕ → ℕ → ℕ → ℕ → View
view first count period unit moved =
    record { first = first; count = count; period = period; unit = unit; moved = moved }

-- ---- names

-- a name has no way out of the text that it stands in
pub name_escaped : escaped (codes "<A&B>\"") ≡ codes "&lt;A&amp;B&gt;&quot;"
name_escaped = refl

-- what XML cannot have is a question mark
pub control_is_asked : escaped (7 ∷ 65 ∷ 200 ∷ []) ≡ codes "?A?"
control_is_asked = refl

pub label_is_text :
    written (labelled Label ((Chars (codes "e") ∷ []) ∷ (Chars (codes "-60") ∷ []) ∷ (Chars (codes "160") ∷ []) ∷ []) (shown (codes "CK<0>")))
    ≡ codes "<text class=\"e\" x=\"-60\" y=\"160\">CK&lt;0&gt;</text>"
label_is_text = refl

-- of 41 bytes the last 38 are shown, of 40 all
pub long_is_cut : words_text (shown (replicate 3 88 ++ replicate 38 89)) ≡ codes ".." ++ replicate 38 89
long_is_cut = refl

pub short_is_whole : words_text (shown (replicate 40 88)) ≡ replicate 40 88
short_is_whole = refl

pub shown_lengths : (shown_length (replicate 41 88) ∷ shown_length (replicate 40 88) ∷ shown_length [] ∷ []) ≡ 40 ∷ 40 ∷ 0 ∷ []
shown_lengths = refl

-- from the lowest bit to the highest
pub bits_in_order : bits_text 0 3 ≡ codes "0:3"
unfolding digits
bits_in_order = refl

pub one_bit : bits_text 7 7 ≡ codes "7"
unfolding digits
one_bit = refl

pub names_are : (is_name (codes "viewBox") ∷ is_name (codes "a1") ∷ is_name (codes "1a") ∷ is_name [] ∷ is_name (codes "a b") ∷ []) ≡ true ∷ true ∷ false ∷ false ∷ false ∷ []
names_are = refl

pub plain_bytes : (is_plain 65 ∷ is_plain 34 ∷ is_plain_text 34 ∷ is_plain_text 10 ∷ is_plain 10 ∷ is_plain_text 60 ∷ is_plain_text 38 ∷ []) ≡ true ∷ false ∷ true ∷ true ∷ false ∷ false ∷ false ∷ []
plain_bytes = refl

-- ---- a clock that is 0, rises, falls and is 0, in a period of 4 slots

abbrev pulse : List Value
pulse = Zero ∷ R ∷ F ∷ Zero ∷ []

abbrev small : View
small = view 0 8 4 1 0

pub pulse_grid : all_written (grid_nodes small 670) ≡ codes "<path class=\"u\" d=\"M0 0v670M2400 0v670M3600 0v670M4800 0v670M7200 0v670M8400 0v670M9600 0v670\"/><path class=\"p\" d=\"M1200 0v670M6000 0v670\"/><text class=\"q e\" x=\"-200\" y=\"-40\">tick</text><text class=\"q m\" x=\"1200\" y=\"-40\">0</text><text class=\"q m\" x=\"2400\" y=\"-40\">1</text><text class=\"q m\" x=\"3600\" y=\"-40\">2</text><text class=\"q m\" x=\"4800\" y=\"-40\">3</text><text class=\"q m\" x=\"6000\" y=\"-40\">4</text><text class=\"q m\" x=\"7200\" y=\"-40\">5</text><text class=\"q m\" x=\"8400\" y=\"-40\">6</text><text class=\"q m\" x=\"9600\" y=\"-40\">7</text><text class=\"q e\" x=\"-200\" y=\"-170\">unit</text><text class=\"q m\" x=\"1800\" y=\"-170\">0</text><text class=\"q m\" x=\"3000\" y=\"-170\">1</text><text class=\"q m\" x=\"4200\" y=\"-170\">2</text><text class=\"q m\" x=\"5400\" y=\"-170\">3</text><text class=\"q m\" x=\"6600\" y=\"-170\">0</text><text class=\"q m\" x=\"7800\" y=\"-170\">1</text><text class=\"q m\" x=\"9000\" y=\"-170\">2</text>"
unfolding digits
pulse_grid = refl

abbrev rows_of_two : Layout
rows_of_two = record { rows = 2; pitch = 270 }

pub pulse_row : all_written (row_group small rows_of_two [] 0 (codes "CK<0>") (skewed pulse 0)) ≡ codes "<g transform=\"translate(0 130)\"><title>CK&lt;0&gt; SKEW 0 0:1 R:1 F:1 0:1</title><text class=\"e\" x=\"-60\" y=\"160\">CK&lt;0&gt;</text><path class=\"v0\" d=\"M0 200h1200\"/><path class=\"vR\" d=\"M1200 200l1200 -160\"/><path class=\"vF\" d=\"M2400 40l1200 160\"/><path class=\"v0\" d=\"M3600 200h2400\"/><path class=\"vR\" d=\"M6000 200l1200 -160\"/><path class=\"vF\" d=\"M7200 40l1200 160\"/><path class=\"v0\" d=\"M8400 200h1200\"/></g>\n"
unfolding digits
pulse_row = refl

-- the 0 of slot 3 and that of slot 4 are one run, over the end of the period
pub pulse_runs : map (λ p. (p.from ∷ p.width ∷ [])) (runs_from pulse 0 8) ≡ (0 ∷ 1 ∷ []) ∷ (1 ∷ 1 ∷ []) ∷ (2 ∷ 1 ∷ []) ∷ (3 ∷ 2 ∷ []) ∷ (5 ∷ 1 ∷ []) ∷ (6 ∷ 1 ∷ []) ∷ (7 ∷ 1 ∷ []) ∷ []
pulse_runs = refl

-- read back, the paths spell the wave: no run is a slot longer or shorter
pub pulse_shown : flat_map (shown_by (scale small)) (map tree_of (wave_paths small pulse)) ≡ pulse ++ pulse
unfolding digits
pulse_shown = refl

-- ---- a bus that may change in a slot, or one later, in a period of 8 slots

abbrev bus : Wave Value
bus = skewed (replicate 3 S ++ C ∷ replicate 4 S) 1

abbrev medium : View
medium = view 0 16 8 2 0

pub bus_grid : all_written (grid_nodes medium 940) ≡ codes "<path class=\"g\" d=\"M0 0v940M1200 0v940M2400 0v940M3600 0v940M4800 0v940M6000 0v940M7200 0v940M8400 0v940M9600 0v940\"/><path class=\"u\" d=\"M1800 0v940M3000 0v940M4200 0v940M6600 0v940M7800 0v940M9000 0v940\"/><path class=\"p\" d=\"M600 0v940M5400 0v940\"/><text class=\"q e\" x=\"-200\" y=\"-40\">tick</text><text class=\"q m\" x=\"600\" y=\"-40\">0</text><text class=\"q m\" x=\"1200\" y=\"-40\">1</text><text class=\"q m\" x=\"1800\" y=\"-40\">2</text><text class=\"q m\" x=\"2400\" y=\"-40\">3</text><text class=\"q m\" x=\"3000\" y=\"-40\">4</text><text class=\"q m\" x=\"3600\" y=\"-40\">5</text><text class=\"q m\" x=\"4200\" y=\"-40\">6</text><text class=\"q m\" x=\"4800\" y=\"-40\">7</text><text class=\"q m\" x=\"5400\" y=\"-40\">8</text><text class=\"q m\" x=\"6000\" y=\"-40\">9</text><text class=\"q m\" x=\"6600\" y=\"-40\">10</text><text class=\"q m\" x=\"7200\" y=\"-40\">11</text><text class=\"q m\" x=\"7800\" y=\"-40\">12</text><text class=\"q m\" x=\"8400\" y=\"-40\">13</text><text class=\"q m\" x=\"9000\" y=\"-40\">14</text><text class=\"q m\" x=\"9600\" y=\"-40\">15</text><text class=\"q e\" x=\"-200\" y=\"-170\">unit</text><text class=\"q m\" x=\"1200\" y=\"-170\">0</text><text class=\"q m\" x=\"2400\" y=\"-170\">1</text><text class=\"q m\" x=\"3600\" y=\"-170\">2</text><text class=\"q m\" x=\"4800\" y=\"-170\">3</text><text class=\"q m\" x=\"6000\" y=\"-170\">0</text><text class=\"q m\" x=\"7200\" y=\"-170\">1</text><text class=\"q m\" x=\"8400\" y=\"-170\">2</text>"
unfolding digits
bus_grid = refl

-- shaded are slots 3 and 4, and the latest change is in slot 4: no change is drawn early
pub bus_row : all_written (row_group medium (record { rows = 3; pitch = 270 }) [] 2 (codes "Q<0:1>") bus) ≡ codes "<g transform=\"translate(0 670)\"><title>Q&lt;0:1&gt; SKEW 1 S:3 C:1 S:4</title><text class=\"e\" x=\"-60\" y=\"160\">Q&lt;0:1&gt;</text><path class=\"sm\" d=\"M1800 20h1200v200h-1200zM6600 20h1200v200h-1200z\"/><path class=\"late\" d=\"M2400 40l600 160M2400 200l600 -160M7200 40l600 160M7200 200l600 -160\"/><path class=\"vS\" d=\"M0 40h1800v160h-1800z\"/><path class=\"vC\" d=\"M1800 40l600 160M1800 200l600 -160\"/><path class=\"vS\" d=\"M2400 40h4200v160h-4200z\"/><path class=\"vC\" d=\"M6600 40l600 160M6600 200l600 -160\"/><path class=\"vS\" d=\"M7200 40h2400v160h-2400z\"/><text class=\"q\" x=\"9660\" y=\"155\">skew 1</text></g>\n"
unfolding digits earlier back
bus_row = refl

pub bus_steps : steps_of bus ≡ replicate 3 S ++ C ∷ C ∷ replicate 3 S
unfolding earlier back
bus_steps = refl

-- without a skew nothing is shaded, and a wave that never changes has no late path
pub nothing_late : late_paths medium (skewed (replicate 8 S) 3) ≡ []
nothing_late = refl

pub nothing_shaded : shaded_paths medium (skewed (replicate 8 S) 3) ≡ []
unfolding earlier back
nothing_shaded = refl

-- ---- rows: of four nets in name order the second and the third join the one before them

pub rows_joined : cut_all (λ place. (place == 1) || (place == 2)) 4 ≡ one_row 0 3 ∷ one_row 3 4 ∷ []
rows_joined = refl

pub rows_apart : cut_all (λ place. false) 2 ≡ one_row 0 1 ∷ one_row 1 2 ∷ []
rows_apart = refl

pub no_rows : cut_all (λ place. true) 0 ≡ []
no_rows = refl

-- ---- a limit of 2 that is missed by 2, in a view from tick -2 on: all ticks are 8 later

abbrev near : View
near = view 6 9 8 2 8

abbrev two_rows : Layout
two_rows = record { rows = 2; pitch = 470 }

pub near_grid : all_written (grid_nodes near 1580) ≡ codes "<path class=\"g\" d=\"M0 0v1580M2132 0v1580M4264 0v1580M6396 0v1580M8528 0v1580\"/><path class=\"u\" d=\"M1066 0v1580M5330 0v1580M7462 0v1580M9594 0v1580\"/><path class=\"p\" d=\"M3198 0v1580\"/><text class=\"q e\" x=\"-200\" y=\"-40\">tick</text><text class=\"q m\" x=\"3198\" y=\"-40\">0</text><text class=\"q m\" x=\"4264\" y=\"-40\">1</text><text class=\"q m\" x=\"5330\" y=\"-40\">2</text><text class=\"q m\" x=\"6396\" y=\"-40\">3</text><text class=\"q m\" x=\"7462\" y=\"-40\">4</text><text class=\"q m\" x=\"8528\" y=\"-40\">5</text><text class=\"q m\" x=\"9594\" y=\"-40\">6</text><text class=\"q e\" x=\"-200\" y=\"-170\">unit</text><text class=\"q m\" x=\"4264\" y=\"-170\">0</text><text class=\"q m\" x=\"6396\" y=\"-170\">1</text><text class=\"q m\" x=\"8528\" y=\"-170\">2</text>"
unfolding digits
near_grid = refl

abbrev data_cells : List Value
data_cells = replicate 3 C ++ replicate 5 S

abbrev watched : Mark
watched = Window (record { row = 1; from = 9; to = 11 })

abbrev missed : Mark
missed = Bad (record { row = 1; from = 9; to = 10 })

-- the window has the slots of ticks 1 to 3, and what offends those of ticks 1 and 2
pub watched_row : all_written (row_group near two_rows (watched ∷ missed ∷ []) 1 (codes "D<0>") (skewed data_cells 0)) ≡ codes "<g transform=\"translate(0 600)\"><title>D&lt;0&gt; SKEW 0 C:3 S:5</title><text class=\"e\" x=\"-60\" y=\"160\">D&lt;0&gt;</text><path class=\"win\" d=\"M3198 0h3198v240h-3198z\"/><path class=\"vS\" d=\"M0 40h2132v160h-2132z\"/><path class=\"vC\" d=\"M2132 40h3198v160h-3198z\"/><path class=\"vS\" d=\"M5330 40h4264v160h-4264z\"/><path class=\"bad\" d=\"M3198 0h2132v240h-2132z\"/></g>\n"
unfolding digits
watched_row = refl

abbrev marks : List Mark
marks =
    watched ∷ missed ∷ Edge 10 0 1
    ∷ Change (record { row = 1; tick = 10 }) C Data ∷ Note (record { row = 1; tick = 10 }) 0 Data
    ∷ Change (record { row = 0; tick = 10 }) R Clock ∷ Note (record { row = 0; tick = 10 }) 1 Clock
    ∷ Distance (record { line = 0; from = 8; to = 10; text = 2; is_bad = false })
    ∷ Distance (record { line = 1; from = 10; to = 11; text = 3; is_bad = false })
    ∷ Distance (record { line = 2; from = 8; to = 10; text = 4; is_bad = true }) ∷ []

abbrev mark_texts : List (List ℕ)
mark_texts = codes "2" ∷ codes "edge 2" ∷ codes "setup 2" ∷ codes "hold 1" ∷ codes "slack -2" ∷ []

pub marks_written : all_written (flat_map (mark_nodes near two_rows mark_texts) marks) ≡ codes "<path class=\"edge\" d=\"M5330 110V860\"/>\n<path class=\"st0\" transform=\"translate(0 600)\" d=\"M4264 40l1066 160M4264 200l1066 -160\"/>\n<text class=\"k\" x=\"5375\" y=\"575\">2</text>\n<path class=\"st1\" transform=\"translate(0 130)\" d=\"M4264 200l1066 -160\"/>\n<text class=\"k\" x=\"5375\" y=\"430\">edge 2</text>\n<path class=\"dim\" d=\"M3198 1000H5330M3198 960v80M5330 960v80\"/><text class=\"k\" x=\"5375\" y=\"1035\">setup 2</text>\n<path class=\"dim\" d=\"M5330 1170H6396M5330 1130v80M6396 1130v80\"/><text class=\"k\" x=\"6441\" y=\"1205\">hold 1</text>\n<path class=\"has\" d=\"M3198 1340H5330M3198 1300v80M5330 1300v80\"/><text class=\"k r\" x=\"5375\" y=\"1375\">slack -2</text>\n"
unfolding digits
marks_written = refl

pub three_distances : distance_count marks ≡ 3
three_distances = refl

-- marks of a picture of two rows, and of none
pub marks_within : map (is_within 2) marks ≡ replicate 10 true
marks_within = refl

pub row_missing : is_within 1 watched ≡ false
row_missing = refl

-- an edge outside the view is left out, and a window is cut to it
pub edge_outside : mark_nodes near two_rows [] (Edge 4 0 1) ≡ []
edge_outside = refl

-- ---- captions

-- two spaces part a line, one does not, and each part stands in its own column
pub line_parted : all_written (line_nodes 2510 (codes "           2         D changes \"D .S1-4\" line 4"))
    ≡ codes "<text x=\"852\" y=\"2510\">2</text>\n<text x=\"1572\" y=\"2510\">D changes &quot;D .S1-4&quot; line 4</text>\n"
unfolding digits
line_parted = refl

pub parts_begin : map (begins (codes " a b  c")) (range_with_len 0 7) ≡ false ∷ true ∷ false ∷ false ∷ false ∷ false ∷ true ∷ []
parts_begin = refl

pub part_lengths : (part_length (codes "a b  c") ∷ part_length (codes "a ") ∷ part_length (codes "a") ∷ part_length [] ∷ []) ≡ 3 ∷ 1 ∷ 1 ∷ 0 ∷ []
part_lengths = refl

pub no_part : line_nodes 100 (codes "   ") ≡ []
no_part = refl

-- ---- steps of the grid: at most 16 to a view

pub steps : map step (view 0 16 8 2 0 ∷ view 0 17 8 2 0 ∷ view 0 800 400 50 0 ∷ view 0 8192 4096 64 0 ∷ view 0 80001 4096 64 0 ∷ []) ≡ 1 ∷ 2 ∷ 50 ∷ 1000 ∷ 10000 ∷ []
steps = refl
