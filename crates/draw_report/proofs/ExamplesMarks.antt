-- Texts of marks and of the lines below a picture, worked out on paper.
use Rattle.std.specs.Prelude.{◌≡◌, ℕ, ◌++◌, true, false, List, [], ◌∷◌, codes, length, map, replicate}
use Rattle.std.specs.List.{flat_map}
use Rattle.std.specs.Fmt.{digits}
use Rattle.std.proofs.Common.{refl}
use Rattle.draw_report.specs.declared.mark.Layout.{Layout}
use Rattle.draw_report.specs.declared.mark.Mark.{Mark}
use Rattle.draw_report.specs.declared.mark.Mark.TheVariants.{Arrow, Bad, Distance, Edge, Flag, Note, Window}
use Rattle.draw_report.specs.declared.mark.Side.TheVariants.{Clock, Data}
use Rattle.draw_report.specs.declared.mark.Spot.{Spot}
use Rattle.draw_report.specs.declared.view.View.{View}
use Rattle.draw_report.specs.Element.{all_written}
use Rattle.draw_report.specs.Mark.{bad_in, flags, is_far, mark_nodes, window_in}
use Rattle.draw_report.specs.Caption.{caption_nodes}
use Rattle.draw_report.specs.Picture.{grid_of, height_of, label_room, width_of}

abbrev view : ℕ → ℕ → ℕ → ℕ → ℕ → View
view first count period unit moved =
    record { first = first; count = count; period = period; unit = unit; moved = moved }

-- slots 6 to 14, each 1,066 wide: the lines of ticks 5 to 14 are in it
abbrev near : View
near = view 6 9 8 2 8

abbrev two_rows : Layout
two_rows = record { rows = 2; pitch = 470 }

abbrev spot : ℕ → ℕ → Spot
spot row tick = record { row = row; tick = tick }

-- the texts of marks that stand over the rows, with these texts for them
abbrev over : List (List ℕ) → List Mark → List ℕ
over texts marks = all_written (flat_map (mark_nodes near two_rows texts) marks)

-- ---- arrows

-- from below the upper row to above the lower, or the other way up
pub arrows_written : over [] (Arrow (spot 0 8) (spot 1 10) Data ∷ Arrow (spot 1 8) (spot 0 10) Clock ∷ [])
    ≡ codes "<path class=\"ar0\" d=\"M3198 330L5330 625\"/>\n<path class=\"ar1\" d=\"M3198 640L5330 345\"/>\n"
unfolding digits
arrows_written = refl

-- ---- flags

-- right of their row, and of no other; one of them leads to its picture
abbrev flagged : List Mark
flagged = Flag 1 3 false ∷ Flag 2 4 true ∷ Flag 1 15 true ∷ []

pub flags_written : map (λ row. all_written (flags near row flagged)) (0 ∷ 1 ∷ 2 ∷ [])
    ≡ [] ∷ codes "<text class=\"r\" x=\"10294\" y=\"160\">fault 3<a href=\"#f15\"> 15</a></text>"
    ∷ codes "<text class=\"r\" x=\"10294\" y=\"160\">fault<a href=\"#f4\"> 4</a></text>" ∷ []
unfolding digits
flags_written = refl

-- ---- notes

-- of 11 bytes at the right end a note stands on the left, of 10 on the right
pub notes_turn : over (codes "setup -1234" ∷ codes "setup 1234" ∷ []) (Note (spot 1 14) 0 Data ∷ Note (spot 1 14) 1 Data ∷ [])
    ≡ codes "<text class=\"k e\" x=\"9549\" y=\"575\">setup -1234</text>\n<text class=\"k\" x=\"9639\" y=\"575\">setup 1234</text>\n"
unfolding digits
notes_turn = refl

-- a text that ends 800 right of the plot is not too far: 3656 + 45 + 72 * 93 is 9597 + 800
pub far_from_a_byte_on : map (λ count. is_far (view 0 21 8 2 0) 7 (replicate count 65)) (92 ∷ 93 ∷ 94 ∷ []) ≡ false ∷ false ∷ true ∷ []
far_from_a_byte_on = refl

-- ---- windows, and what offends

abbrev window_from : ℕ → ℕ → Mark
window_from from to = Window (record { row = 1; from = from; to = to })

abbrev bad_from : ℕ → ℕ → Mark
bad_from from to = Bad (record { row = 1; from = from; to = to })

-- they are cut to the view at both ends, and not drawn outside it
pub windows_cut : map (λ mark. all_written (window_in near 1 mark)) (window_from 2 7 ∷ window_from 13 20 ∷ window_from 0 5 ∷ window_from 15 20 ∷ [])
    ≡ codes "<path class=\"win\" d=\"M0 0h2132v240h-2132z\"/>" ∷ codes "<path class=\"win\" d=\"M7462 0h2132v240h-2132z\"/>" ∷ [] ∷ [] ∷ []
unfolding digits
windows_cut = refl

pub bad_cut : map (λ mark. all_written (bad_in near 1 mark)) (bad_from 2 7 ∷ bad_from 13 20 ∷ bad_from 0 5 ∷ bad_from 15 20 ∷ [])
    ≡ codes "<path class=\"bad\" d=\"M0 0h2132v240h-2132z\"/>" ∷ codes "<path class=\"bad\" d=\"M7462 0h2132v240h-2132z\"/>" ∷ [] ∷ [] ∷ []
unfolding digits
bad_cut = refl

-- of slots 6 to 14 the first and the last are seen alone
pub windows_at_ends : map (λ mark. all_written (window_in near 1 mark)) (window_from 6 6 ∷ window_from 14 14 ∷ [])
    ≡ codes "<path class=\"win\" d=\"M0 0h1066v240h-1066z\"/>" ∷ codes "<path class=\"win\" d=\"M8528 0h1066v240h-1066z\"/>" ∷ []
unfolding digits
windows_at_ends = refl

-- ---- edges: the lines of both ends of the view are in it

pub edges_at_ends : map (λ tick. length (mark_nodes near two_rows [] (Edge tick 0 1))) (4 ∷ 5 ∷ 14 ∷ 15 ∷ []) ≡ 0 ∷ 2 ∷ 2 ∷ 0 ∷ []
edges_at_ends = refl

-- from the upper of its rows to the lower, whichever is named first
pub edge_either_way : over [] (Edge 10 1 0 ∷ []) ≡ codes "<path class=\"edge\" d=\"M5330 110V860\"/>\n"
unfolding digits
edge_either_way = refl

-- ---- distances: what ends after the plot ends with it

pub distance_cut : over (codes "hold 9" ∷ []) (Distance (record { line = 1; from = 8; to = 20; text = 0; is_bad = false }) ∷ [])
    ≡ codes "<path class=\"dim\" d=\"M3198 1170H9594M3198 1130v80M9594 1130v80\"/><text class=\"k\" x=\"9639\" y=\"1205\">hold 9</text>\n"
unfolding digits
distance_cut = refl

-- ---- lines below, each 165 below the one before it

pub captions_written : all_written (caption_nodes 1000 (codes "a" ∷ codes " b" ∷ []))
    ≡ codes "<text x=\"60\" y=\"1165\">a</text>\n<text x=\"132\" y=\"1330\">b</text>\n"
unfolding digits
captions_written = refl

-- ---- how large a picture is

abbrev three_distances : List Mark
three_distances = replicate 3 (Distance (record { line = 0; from = 8; to = 9; text = 0; is_bad = false }))

pub grids_are : (grid_of two_rows [] ∷ grid_of two_rows three_distances ∷ []) ≡ 1070 ∷ 1580 ∷ []
grids_are = refl

pub heights_are : (height_of 1580 [] ∷ height_of 1580 (replicate 5 []) ∷ []) ≡ 2240 ∷ 3065 ∷ []
heights_are = refl

-- labels of up to 8 bytes take the same room, and of more than 40 bytes 40 are shown
pub rooms_are : map (λ count. label_room ([] ∷ replicate count 65 ∷ [])) (1 ∷ 8 ∷ 9 ∷ 40 ∷ 41 ∷ []) ≡ 736 ∷ 736 ∷ 808 ∷ 3040 ∷ 3040 ∷ []
rooms_are = refl

-- a heading or a line of 160 bytes is wider than these rows, of 159 bytes it is not
pub widths_are : map (λ count. width_of 736 9594 (replicate count 65) []) (159 ∷ 160 ∷ [])
    ++ map (λ count. width_of 736 9594 [] (replicate count 65 ∷ [])) (159 ∷ 160 ∷ [])
    ≡ 11630 ∷ 11640 ∷ 11630 ∷ 11640 ∷ []
widths_are = refl
