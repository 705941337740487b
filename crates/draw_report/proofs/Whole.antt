-- A picture, put together of its parts.
use Rattle.std.proofs.Common.{◌≡◌, ℕ, ◌+◌, ◌/◌, List, [], ◌∷◌, ◌++◌, append_assoc, append-nil, refl, sym, ap, subst, ◌∙◌}
use Rattle.step_values.specs.declared.value.Value.{Value}
use Rattle.skew_algebra.specs.Wave.{Wave}
use Rattle.draw_report.specs.declared.mark.Layout.{Layout}
use Rattle.draw_report.specs.declared.paper.Paper.{Paper}
use Rattle.draw_report.specs.declared.picture.Frame.{Frame}
use Rattle.draw_report.specs.declared.sketch.Sketch.{Sketch as Drawn}
use Rattle.draw_report.specs.declared.style.TheConstants.{DEFS, STYLE}
use Rattle.draw_report.specs.Defs.{defs}
use Rattle.std.specs.Prelude.{codes, decimal, Option, None}
use Rattle.draw_report.specs.Paper.{Adds}
use Rattle.draw_report.specs.Element.{Break, Group, Svg, all_written, begun_text, ended_text, escaped, full, nodes, written}
use Rattle.draw_report.specs.Caption.{caption_nodes}
use Rattle.draw_report.specs.Xml.{IsDocument}
use Rattle.draw_report.specs.Picture.{Sketch, background, frame_of, front, full_height, full_width, grid_height, head_text, heading_text, layout_of, looks, moved_right, picture, plotted, size, sketch_room, sketched, tail_text, within}
use Rattle.draw_report.proofs.Reading.{writes_documents}
use Rattle.draw_report.proofs.Texts.{adds_same, adds_three, nodes_append}
use Rattle.draw_report.proofs.Writing.{defs_written, full_some}

joined : (svg group before plot lines closes closed : List ℕ) →
    (svg ++ (before ++ group))
    ++ (plot ++ ((closes ++ 10 ∷ []) ++ (lines ++ (closed ++ 10 ∷ []))))
    ≡ svg ++ ((before ++ ((group ++ (plot ++ (closes ++ []))) ++ (10 ∷ lines)))
    ++ (closed ++ 10 ∷ []))
joined svg group before plot lines closes closed = simp (append_assoc, append-nil)

within_written : (s : Sketch) →
    all_written (within s)
    ≡ all_written (front s.page (full_width s) (full_height s) s.heading)
    ++ ((begun_text Group (moved_right (sketch_room s))
    ++ (all_written (plotted s) ++ (ended_text Group ++ [])))
    ++ (10 ∷ all_written (caption_nodes (600 + grid_height s) s.caption)))
within_written s =
    nodes_append (front s.page (full_width s) (full_height s) s.heading)
    (full Group (moved_right (sketch_room s)) (plotted s)
    ∷ Break ∷ caption_nodes (600 + grid_height s) s.caption)
    ∙ ap (λ (l : List ℕ). all_written (front s.page (full_width s) (full_height s) s.heading)
    ++ (l ++ (10 ∷ all_written (caption_nodes (600 + grid_height s) s.caption))))
    (full_some Group (moved_right (sketch_room s)) (plotted s) [] refl)

picture_parts : (s : Sketch) →
    head_text s.page (full_width s) (full_height s) (sketch_room s) s.heading
    ++ (all_written (plotted s) ++ tail_text (600 + grid_height s) s.caption) ≡ picture s
picture_parts s =
    joined (begun_text Svg (size (full_width s) (full_height s)))
    (begun_text Group (moved_right (sketch_room s)))
    (all_written (front s.page (full_width s) (full_height s) s.heading)) (all_written (plotted s))
    (all_written (caption_nodes (600 + grid_height s) s.caption)) (ended_text Group)
    (ended_text Svg)
    ∙ sym (full_some Svg (size (full_width s) (full_height s)) (within s) (10 ∷ []) refl
    ∙ ap (λ (l : List ℕ). begun_text Svg (size (full_width s) (full_height s))
    ++ (l ++ (ended_text Svg ++ 10 ∷ []))) (within_written s))

pub adds_picture : (d : Drawn) (ws : List (Wave Value)) (layout : Layout) (frame : Frame)
    (old one two new : Paper) → layout ≡ layout_of (sketched d ws) → frame ≡ frame_of d layout →
    Adds old one (head_text d.page frame.width frame.height frame.left d.heading.now) →
    Adds one two (all_written (plotted (sketched d ws))) →
    Adds two new (tail_text (600 + frame.grid) d.caption.now) →
    Adds old new (picture (sketched d ws))
adds_picture d ws layout frame old one two new rows is head plot tail =
    let s = sketched d ws in
    let known = is ∙ ap (frame_of d) rows in
    adds_same old new
    (head_text s.page (full_width s) (full_height s) (sketch_room s) s.heading
    ++ (all_written (plotted s) ++ tail_text (600 + grid_height s) s.caption))
    (picture s) (picture_parts s)
    (adds_three old one two new
    (head_text s.page (full_width s) (full_height s) (sketch_room s) s.heading)
    (all_written (plotted s)) (tail_text (600 + grid_height s) s.caption)
    (subst (λ (f : Frame). Adds old one (head_text d.page f.width f.height f.left d.heading.now))
    known
    head)
    plot (subst (λ (f : Frame). Adds two new (tail_text (600 + f.grid) d.caption.now)) known tail))

pub picture_document : (s : Sketch) (text : List ℕ) → text ≡ picture s → IsDocument text
picture_document s text is =
    subst IsDocument (sym is)
    (writes_documents Svg (size (full_width s) (full_height s)) (nodes (within s)))

-- ---- what stands before the plot

head_regrouped : (svg w tall h box space ends line title heading titled looks rect high shut label
    labelled group left moved : List ℕ) (wide long : List ℕ) →
    (svg ++ (wide ++ (tall ++ (long ++ (box ++ (w ++ (space ++ (h ++ ((ends ++ (line ++ title))
    ++ (heading ++ (titled ++ line)))))))))))
    ++ (looks ++ (rect ++ (w ++ (high ++ (h ++ ((shut ++ (line ++ label)) ++ (heading
    ++ ((labelled ++ (line ++ group)) ++ (left ++ moved)))))))))
    ≡ (svg ++ (wide ++ (tall ++ (long ++ (box ++ (w ++ (space ++ (h ++ ends))))))))
    ++ ((line ++ ((title ++ (heading ++ titled)) ++ (line ++ (looks
    ++ ((rect ++ (w ++ (high ++ (h ++ shut)))) ++ (line ++ ((label ++ (heading ++ labelled))
    ++ (line ++ []))))))))
    ++ (group ++ (left ++ moved)))
head_regrouped svg w tall h box space ends line title heading titled looks rect high shut label
    labelled group left moved wide long =
    simp (append_assoc, append-nil)

-- up to the looks, and after them
abbrev pub head_front : ℕ → ℕ → List ℕ → List ℕ
head_front w h heading =
    codes "<svg xmlns=\"http://www.w3.org/2000/svg\" width=\"" ++ (decimal (w / 10)
    ++ (codes "\" height=\"" ++ (decimal (h / 10) ++ (codes "\" viewBox=\"0 0 " ++ (decimal w
    ++ (codes " " ++ (decimal h ++ (codes "\">\n<title>" ++ (escaped heading
    ++ codes "</title>\n")))))))))

abbrev pub head_back : ℕ → ℕ → ℕ → List ℕ → List ℕ
head_back w h x heading =
    codes "<rect class=\"bg\" width=\"" ++ (decimal w ++ (codes "\" height=\"" ++ (decimal h
    ++ (codes "\"/>\n<text class=\"h\" x=\"60\" y=\"190\">" ++ (escaped heading
    ++ (codes "</text>\n<g transform=\"translate(" ++ (decimal x ++ codes " 600)\">")))))))

head_written : (page : Option ℕ) (w h x : ℕ) (heading : List ℕ) →
    head_front w h heading ++ (all_written (looks page) ++ head_back w h x heading)
    ≡ head_text page w h x heading
head_written page w h x heading =
    head_regrouped (codes "<svg xmlns=\"http://www.w3.org/2000/svg\" width=\"") (decimal w)
    (codes "\" height=\"") (decimal h) (codes "\" viewBox=\"0 0 ") (codes " ") (codes "\">")
    (codes "\n") (codes "<title>") (escaped heading) (codes "</title>") (all_written (looks page))
    (codes "<rect class=\"bg\" width=\"") (codes "\" height=\"") (codes "\"/>")
    (codes "<text class=\"h\" x=\"60\" y=\"190\">") (codes "</text>")
    (codes "<g transform=\"translate(") (decimal x) (codes " 600)\">") (decimal (w / 10))
    (decimal (h / 10))
    ∙ ap (λ (l : List ℕ). begun_text Svg (size w h)
    ++ ((codes "\n" ++ ((codes "<title>" ++ (escaped heading ++ codes "</title>"))
    ++ (codes "\n" ++ l))) ++ begun_text Group (moved_right x)))
    (sym (nodes_append (looks page)
    (background w h ∷ Break ∷ heading_text heading ∷ Break ∷ [])))

pub adds_head : (page : Option ℕ) (w h x : ℕ) (heading : List ℕ) (old one two new : Paper) →
    Adds old one (head_front w h heading) → Adds one two (all_written (looks page)) →
    Adds two new (head_back w h x heading) → Adds old new (head_text page w h x heading)
adds_head page w h x heading old one two new a b c =
    adds_same old new
    (head_front w h heading ++ (all_written (looks page) ++ head_back w h x heading))
    (head_text page w h x heading) (head_written page w h x heading)
    (adds_three old one two new (head_front w h heading) (all_written (looks page))
    (head_back w h x heading) a b c)

looks_regrouped : (style look styled defs line : List ℕ) →
    style ++ (look ++ ((styled ++ line) ++ (defs ++ line)))
    ≡ (style ++ (look ++ styled)) ++ (line ++ (defs ++ (line ++ [])))
looks_regrouped style look styled defs line = simp (append_assoc, append-nil)

abbrev pub looks_text : List ℕ → List ℕ
looks_text patterns =
    codes "<style>" ++ (STYLE.now ++ (codes "</style>\n" ++ (patterns ++ codes "\n")))

pub adds_looks : (page : Option ℕ) (old new : Paper) → page ≡ None →
    Adds old new (looks_text DEFS.now) → Adds old new (all_written (looks page))
adds_looks page old new none put =
    adds_same old new (looks_text DEFS.now) (all_written (looks page))
    (ap looks_text defs_written
    ∙ looks_regrouped (codes "<style>") STYLE.now (codes "</style>") (written defs) (codes "\n")
    ∙ ap (λ (p : Option ℕ). all_written (looks p)) (sym none))
    put
