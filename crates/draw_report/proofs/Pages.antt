-- Pages, put together of pictures.
use Rattle.std.proofs.Common.{◌≡◌, ℕ, ◌+◌, ◌<◌, List, [], ◌∷◌, ◌++◌, length, get_or, take, map, append_assoc, append-nil, refl, arith, sym, ap, ap₂, ◌∙◌}
use Rattle.std.specs.Prelude.{◌==◌, codes, false}
use Rattle.std.proofs.lemmas.List.{length-take-le, take_more}
use Rattle.std.specs.List.{flat_map}
use Rattle.draw_report.specs.declared.paper.Paper.{Paper}
use Rattle.draw_report.specs.declared.style.TheConstants.{DEFS, PAGE_STYLE, STYLE}
use Rattle.draw_report.specs.Defs.{defs}
use Rattle.draw_report.specs.Element.{Body, Break, Chars, Heading, Html, Lines, Number, Section, all_written, begun_text, ended_text, escaped, full, labelled, written}
use Rattle.draw_report.specs.Page.{Page, PagesAreWritten, back_text, body_nodes, front_text, head_node, hidden, line_nodes, lines_nodes, link_nodes, link_text, links, numbered, opening_text, page, section, section_text, sections, sections_text, table_nodes}
use Rattle.draw_report.specs.Paper.{Adds}
use Rattle.draw_report.specs.Picture.{Sketch, picture, picture_node}
use Rattle.draw_report.proofs.Texts.{adds_same, adds_three, adds_two, nodes_append}
use Rattle.draw_report.proofs.Writing.{defs_written, full_some, node_rest}

-- ---- sections

section_regrouped : (begins line node ends : List ℕ) →
    (begins ++ line) ++ ((node ++ line) ++ (ends ++ line))
    ≡ (begins ++ ((line ++ (node ++ (line ++ []))) ++ (ends ++ []))) ++ (line ++ [])
section_regrouped begins line node ends = simp (append_assoc, append-nil)

section_written : (letter : List ℕ) (number : ℕ) (s : Sketch) →
    section_text letter number (picture s) ≡ all_written (section letter number s)
section_written letter number s =
    let values = (Chars letter ∷ Number number ∷ []) ∷ [] in
    ap (λ (l : List ℕ). opening_text letter number ++ (l ++ (ended_text Section ++ 10 ∷ [])))
    (node_rest (picture_node s) (10 ∷ []))
    ∙ section_regrouped (begun_text Section values) (10 ∷ []) (written (picture_node s))
    (ended_text Section)
    ∙ sym (ap (λ (l : List ℕ). l ++ ((10 ∷ []) ++ []))
    (full_some Section values (Break ∷ picture_node s ∷ Break ∷ []) [] refl))

sections_written : (letter : List ℕ) (number : ℕ) (ss : List Sketch) →
    sections_text letter number (map picture ss) ≡ all_written (sections letter number ss)
sections_written letter number [] = refl
sections_written letter number (s ∷ ss) =
    ap₂ (λ (a b : List ℕ). a ++ b) (section_written letter number s)
    (sections_written letter (number + 1) ss)
    ∙ sym (nodes_append (section letter number s) (sections letter (number + 1) ss))

-- ---- the whole

page_regrouped : (html front body above lines limits cases closes ends line : List ℕ) →
    (html ++ (front ++ (body ++ (above ++ lines))))
    ++ (limits ++ (cases ++ ((closes ++ line) ++ (ends ++ line))))
    ≡ html ++ ((front ++ ((body ++ ((above ++ (lines ++ (limits ++ cases))) ++ (closes ++ [])))
    ++ (line ++ []))) ++ (ends ++ line))
page_regrouped html front body above lines limits cases closes ends line =
    simp (append_assoc, append-nil)

body_written : (p : Page) →
    all_written (body_nodes p)
    ≡ all_written (Break ∷ hidden ∷ Break ∷ labelled Heading [] (Chars p.title ∷ []) ∷ Break ∷ [])
    ++ (all_written (lines_nodes p.above p.rows p.below)
    ++ (all_written (sections (codes "f") 1 p.limits)
    ++ all_written (sections (codes "k") 1 p.cases)))
body_written p =
    nodes_append (Break ∷ hidden ∷ Break ∷ labelled Heading [] (Chars p.title ∷ []) ∷ Break ∷ [])
    (lines_nodes p.above p.rows p.below ++ (sections (codes "f") 1 p.limits ++ sections (codes "k") 1 p.cases))
    ∙ ap (λ (l : List ℕ). all_written
    (Break ∷ hidden ∷ Break ∷ labelled Heading [] (Chars p.title ∷ []) ∷ Break ∷ []) ++ l)
    (nodes_append (lines_nodes p.above p.rows p.below)
    (sections (codes "f") 1 p.limits ++ sections (codes "k") 1 p.cases)
    ∙ ap (λ (l : List ℕ). all_written (lines_nodes p.above p.rows p.below) ++ l)
    (nodes_append (sections (codes "f") 1 p.limits) (sections (codes "k") 1 p.cases)))

page_written : (p : Page) →
    page p ≡ begun_text Html ((Chars (codes "http://www.w3.org/1999/xhtml") ∷ []) ∷ [])
    ++ ((all_written (Break ∷ head_node p.title ∷ Break ∷ [])
    ++ ((begun_text Body [] ++ (all_written (body_nodes p) ++ (ended_text Body ++ [])))
    ++ ((10 ∷ []) ++ []))) ++ (ended_text Html ++ 10 ∷ []))
page_written p =
    let values = (Chars (codes "http://www.w3.org/1999/xhtml") ∷ []) ∷ [] in
    full_some Html values
    (Break ∷ head_node p.title ∷ Break ∷ full Body [] (body_nodes p) ∷ Break ∷ []) (10 ∷ []) refl
    ∙ ap (λ (l : List ℕ). begun_text Html values ++ (l ++ (ended_text Html ++ 10 ∷ [])))
    (nodes_append (Break ∷ head_node p.title ∷ Break ∷ [])
    (full Body [] (body_nodes p) ∷ Break ∷ [])
    ∙ ap (λ (l : List ℕ). all_written (Break ∷ head_node p.title ∷ Break ∷ [])
    ++ (l ++ ((10 ∷ []) ++ []))) (full_some Body [] (body_nodes p) [] refl))

pub pages_are_written : PagesAreWritten
pages_are_written p =
    ap₂ (λ (a b : List ℕ). front_text p.title p.above p.rows p.below ++ (a ++ (b ++ back_text)))
    (sections_written (codes "f") 1 p.limits) (sections_written (codes "k") 1 p.cases)
    ∙ page_regrouped
    (begun_text Html ((Chars (codes "http://www.w3.org/1999/xhtml") ∷ []) ∷ []))
    (all_written (Break ∷ head_node p.title ∷ Break ∷ [])) (begun_text Body [])
    (all_written (Break ∷ hidden ∷ Break ∷ labelled Heading [] (Chars p.title ∷ []) ∷ Break ∷ []))
    (all_written (lines_nodes p.above p.rows p.below)) (all_written (sections (codes "f") 1 p.limits))
    (all_written (sections (codes "k") 1 p.cases)) (ended_text Body) (ended_text Html) (10 ∷ [])
    ∙ sym (page_written p
    ∙ ap (λ (l : List ℕ). begun_text Html ((Chars (codes "http://www.w3.org/1999/xhtml") ∷ []) ∷ [])
    ++ ((all_written (Break ∷ head_node p.title ∷ Break ∷ [])
    ++ ((begun_text Body [] ++ (l ++ (ended_text Body ++ []))) ++ ((10 ∷ []) ++ [])))
    ++ (ended_text Html ++ 10 ∷ []))) (body_written p))

-- ---- in the program, text by text

apart : (text : ℕ → List ℕ → List ℕ) (number : ℕ) (a b : List (List ℕ)) →
    numbered text number (a ++ b)
    ≡ numbered text number a ++ numbered text (number + length a) b
apart text number [] b =
    let here : number ≡ number + 0 = omega arith in
    ap (λ (n : ℕ). numbered text n b) here
apart text number (t ∷ a) b =
    let there : number + 1 + length a ≡ number + length (t ∷ a) = omega arith in
    ap (λ (l : List ℕ). text number t ++ l) (apart text (number + 1) a b)
    ∙ sym (append_assoc (text number t) (numbered text (number + 1) a)
    (numbered text (number + 1 + length a) b))
    ∙ ap (λ (n : ℕ). (text number t ++ numbered text (number + 1) a) ++ numbered text n b) there

pub adds_numbered : (text : ℕ → List ℕ → List ℕ) (texts : List (List ℕ)) (i number : ℕ)
    (t : List ℕ) (old between new : Paper) → i < length texts → t ≡ get_or texts i t →
    number ≡ i + 1 → Adds old between (numbered text 1 (take i texts)) →
    Adds between new (text number t) → Adds old new (numbered text 1 (take (i + 1) texts))
adds_numbered text texts i number t old between new within is next a b =
    let front = length-take-le i texts (omega (arith, within)) in
    let here : 1 + length (take i texts) ≡ number = omega (arith, front, next) in
    adds_same old new (numbered text 1 (take i texts) ++ text number t)
    (numbered text 1 (take (i + 1) texts))
    (sym (ap (numbered text 1) (take_more texts i t within)
    ∙ apart text 1 (take i texts) (get_or texts i t ∷ [])
    ∙ ap (λ (l : List ℕ). numbered text 1 (take i texts) ++ l)
    (append-nil (text (1 + length (take i texts)) (get_or texts i t)))
    ∙ ap₂ (λ (n : ℕ) (l : List ℕ). numbered text 1 (take i texts) ++ text n l) here (sym is)))
    (adds_two old between new (numbered text 1 (take i texts)) (text number t) a b)

-- ---- lines

lines_regrouped : (begins lines ends line : List ℕ) →
    begins ++ (lines ++ (ends ++ line)) ≡ (begins ++ (lines ++ (ends ++ []))) ++ (line ++ [])
lines_regrouped begins lines ends line = simp (append_assoc, append-nil)

lines_written : (above rows below : List (List ℕ)) → (length above == 0) ≡ false →
    codes "<pre>" ++ (all_written (table_nodes above rows below) ++ codes "</pre>\n")
    ≡ all_written (lines_nodes above rows below)
lines_written [] rows below some = absurd (cc)
lines_written (line ∷ above) rows below some =
    lines_regrouped (codes "<pre>") (all_written (table_nodes (line ∷ above) rows below))
    (codes "</pre>") (codes "\n")
    ∙ sym (ap (λ (l : List ℕ). l ++ ((10 ∷ []) ++ []))
    (full_some Lines [] (table_nodes (line ∷ above) rows below) [] refl))

links_written : (number : ℕ) (rows : List (List ℕ)) →
    numbered link_text number rows ≡ all_written (links number rows)
links_written number [] = refl
links_written number (row ∷ rows) =
    ap (λ (l : List ℕ). link_text number row ++ l) (links_written (number + 1) rows)
    ∙ sym (nodes_append (link_nodes number row) (links (number + 1) rows))

table_written : (above rows below : List (List ℕ)) →
    all_written (flat_map line_nodes above)
    ++ (numbered link_text 1 rows ++ all_written (flat_map line_nodes below))
    ≡ all_written (table_nodes above rows below)
table_written above rows below =
    ap (λ (l : List ℕ). all_written (flat_map line_nodes above)
    ++ (l ++ all_written (flat_map line_nodes below))) (links_written 1 rows)
    ∙ sym (nodes_append (flat_map line_nodes above) (links 1 rows ++ flat_map line_nodes below)
    ∙ ap (λ (l : List ℕ). all_written (flat_map line_nodes above) ++ l)
    (nodes_append (links 1 rows) (flat_map line_nodes below)))

pub adds_lines : (above rows below : List (List ℕ)) (old one two three four new : Paper) →
    (length above == 0) ≡ false → Adds old one (codes "<pre>") →
    Adds one two (all_written (flat_map line_nodes above)) →
    Adds two three (numbered link_text 1 rows) →
    Adds three four (all_written (flat_map line_nodes below)) →
    Adds four new (codes "</pre>\n") → Adds old new (all_written (lines_nodes above rows below))
adds_lines above rows below old one two three four new some a b c d e =
    adds_same old new
    (codes "<pre>" ++ (all_written (table_nodes above rows below) ++ codes "</pre>\n"))
    (all_written (lines_nodes above rows below)) (lines_written above rows below some)
    (adds_three old one four new (codes "<pre>") (all_written (table_nodes above rows below))
    (codes "</pre>\n") a
    (adds_same one four (all_written (flat_map line_nodes above)
    ++ (numbered link_text 1 rows ++ all_written (flat_map line_nodes below)))
    (all_written (table_nodes above rows below)) (table_written above rows below)
    (adds_three one two three four (all_written (flat_map line_nodes above))
    (numbered link_text 1 rows) (all_written (flat_map line_nodes below)) b c d))
    e)

-- ---- what stands before the pictures

front_regrouped : (html line head title titled look page styled body svg defs closed above named
    lines : List ℕ) →
    ((html ++ (line ++ head)) ++ (title ++ (titled ++ (look ++ (page
    ++ ((styled ++ (line ++ (body ++ (line ++ svg)))) ++ (defs ++ ((closed ++ (line ++ above))
    ++ (title ++ (named ++ line)))))))))) ++ lines
    ≡ html ++ ((line ++ ((head ++ (title ++ (titled ++ (look ++ (page ++ styled)))))
    ++ (line ++ []))) ++ (body ++ ((line ++ ((svg ++ (defs ++ closed))
    ++ (line ++ ((above ++ (title ++ named)) ++ (line ++ []))))) ++ lines)))
front_regrouped html line head title titled look page styled body svg defs closed above named
    lines =
    simp (append_assoc, append-nil)

-- up to the lines
abbrev pub front_put : List ℕ → List ℕ → List ℕ
front_put title patterns =
    codes "<html xmlns=\"http://www.w3.org/1999/xhtml\">\n<head>\n<title>" ++ (escaped title
    ++ (codes "</title>\n<style>" ++ (STYLE.now ++ (escaped PAGE_STYLE.now
    ++ (codes "</style>\n</head>\n<body>\n<svg xmlns=\"http://www.w3.org/2000/svg\""
    ++ (codes " width=\"0\" height=\"0\">" ++ (patterns ++ (codes "</svg>\n<h1>"
    ++ (escaped title ++ codes "</h1>\n")))))))))

front_written : (title : List ℕ) (above rows below : List (List ℕ)) →
    front_put title DEFS.now ++ all_written (lines_nodes above rows below)
    ≡ front_text title above rows below
front_written title above rows below =
    let lines = all_written (lines_nodes above rows below) in
    ap (λ (l : List ℕ). front_put title l ++ lines) defs_written
    ∙ front_regrouped (codes "<html xmlns=\"http://www.w3.org/1999/xhtml\">") (codes "\n")
    (codes "<head>\n<title>") (escaped title) (codes "</title>\n<style>") STYLE.now
    (escaped PAGE_STYLE.now) (codes "</style>\n</head>") (codes "<body>")
    (codes "<svg xmlns=\"http://www.w3.org/2000/svg\" width=\"0\" height=\"0\">") (written defs)
    (codes "</svg>") (codes "<h1>") (codes "</h1>") lines
    ∙ ap (λ (l : List ℕ). begun_text Html ((Chars (codes "http://www.w3.org/1999/xhtml") ∷ []) ∷ [])
    ++ (all_written (Break ∷ head_node title ∷ Break ∷ []) ++ (begun_text Body []
    ++ ((codes "\n" ++ ((codes "<svg xmlns=\"http://www.w3.org/2000/svg\" width=\"0\" height=\"0\">"
    ++ l) ++ (codes "\n" ++ ((codes "<h1>" ++ (escaped title ++ codes "</h1>"))
    ++ (codes "\n" ++ []))))) ++ lines))))
    (sym (node_rest defs (codes "</svg>")))

pub adds_front : (title : List ℕ) (above rows below : List (List ℕ)) (old one new : Paper) →
    Adds old one (front_put title DEFS.now) →
    Adds one new (all_written (lines_nodes above rows below)) →
    Adds old new (front_text title above rows below)
adds_front title above rows below old one new a b =
    adds_same old new (front_put title DEFS.now ++ all_written (lines_nodes above rows below))
    (front_text title above rows below) (front_written title above rows below)
    (adds_two old one new (front_put title DEFS.now) (all_written (lines_nodes above rows below))
    a b)
