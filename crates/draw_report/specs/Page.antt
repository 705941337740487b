-- Pages: what is said of a drawing, and pictures below it.
use Rattle.std.specs.Prelude.{◌≡◌, ℕ, ◌+◌, List, [], ◌∷◌, ◌++◌, codes, map}
use Rattle.std.specs.List.{flat_map}
use Rattle.draw_report.specs.declared.style.TheConstants.{PAGE_STYLE}
use Rattle.draw_report.specs.Element.{Body, Break, Chars, Head, Heading, Hidden, Html, Lines, Link, Look, Node, Number, Section, Style, Text, Title, all_written, begun_text, ended_text, full, labelled, node_onto}
use Rattle.draw_report.specs.Defs.{defs}
use Rattle.draw_report.specs.Picture.{Sketch, picture, picture_node}

-- What stands on a page: its title; lines, rows that lead to the pictures of limits, and lines
-- below them; pictures of limits, and pictures of cases.
pub record Page : Type 0 where
  pub title : List ℕ
  pub above : List (List ℕ)
  pub rows : List (List ℕ)
  pub below : List (List ℕ)
  pub limits : List Sketch
  pub cases : List Sketch

-- ---- nodes

abbrev pub head_node : List ℕ → Node
head_node title =
    full Head []
    (Break ∷ labelled Title [] (Chars title ∷ [])
    ∷ Break ∷ full Style [] (Look ∷ Text (Chars PAGE_STYLE.now ∷ []) ∷ []) ∷ Break ∷ [])

-- what all pictures use
abbrev pub hidden : Node
hidden =
    full Hidden
    ((Chars (codes "http://www.w3.org/2000/svg") ∷ []) ∷ (Chars (codes "0") ∷ [])
    ∷ (Chars (codes "0") ∷ []) ∷ []) (defs ∷ [])

abbrev pub line_nodes : List ℕ → List Node
line_nodes line = Text (Chars line ∷ []) ∷ Break ∷ []

-- a line that leads to the picture of the limit of a number
abbrev pub link_nodes : ℕ → List ℕ → List Node
link_nodes number line =
    labelled Link ((Chars (codes "#f") ∷ Number number ∷ []) ∷ []) (Chars line ∷ []) ∷ Break ∷ []

abbrev pub links : ℕ → List (List ℕ) → List Node
links number [] = []
links number (line ∷ lines) = link_nodes number line ++ links (number + 1) lines

abbrev pub table_nodes : List (List ℕ) → List (List ℕ) → List (List ℕ) → List Node
table_nodes above rows below =
    flat_map line_nodes above ++ (links 1 rows ++ flat_map line_nodes below)

-- nothing if no line stands above
abbrev pub lines_nodes : List (List ℕ) → List (List ℕ) → List (List ℕ) → List Node
lines_nodes [] rows below = []
lines_nodes (line ∷ above) rows below =
    full Lines [] (table_nodes (line ∷ above) rows below) ∷ Break ∷ []

-- a picture, with its number behind a letter
abbrev pub section : List ℕ → ℕ → Sketch → List Node
section letter number s =
    full Section ((Chars letter ∷ Number number ∷ []) ∷ []) (Break ∷ picture_node s ∷ Break ∷ [])
    ∷ Break ∷ []

abbrev pub sections : List ℕ → ℕ → List Sketch → List Node
sections letter number [] = []
sections letter number (s ∷ ss) = section letter number s ++ sections letter (number + 1) ss

abbrev pub body_nodes : Page → List Node
body_nodes p =
    Break ∷ hidden ∷ Break ∷ labelled Heading [] (Chars p.title ∷ []) ∷ Break
    ∷ (lines_nodes p.above p.rows p.below
    ++ (sections (codes "f") 1 p.limits ++ sections (codes "k") 1 p.cases))

abbrev pub page_node : Page → Node
page_node p =
    full Html ((Chars (codes "http://www.w3.org/1999/xhtml") ∷ []) ∷ [])
    (Break ∷ head_node p.title ∷ Break ∷ full Body [] (body_nodes p) ∷ Break ∷ [])

-- The page: a document of XML.
abbrev pub page : Page → List ℕ
page p = node_onto (page_node p) (10 ∷ [])

-- ---- the same of pictures that are written, each with the end of its line

abbrev pub opening_text : List ℕ → ℕ → List ℕ
opening_text letter number =
    begun_text Section ((Chars letter ∷ Number number ∷ []) ∷ []) ++ 10 ∷ []

abbrev pub section_text : List ℕ → ℕ → List ℕ → List ℕ
section_text letter number bytes =
    opening_text letter number ++ (bytes ++ (ended_text Section ++ 10 ∷ []))

-- texts with their numbers
abbrev pub numbered : (ℕ → List ℕ → List ℕ) → ℕ → List (List ℕ) → List ℕ
numbered text number [] = []
numbered text number (t ∷ ts) = text number t ++ numbered text (number + 1) ts

abbrev pub sections_text : List ℕ → ℕ → List (List ℕ) → List ℕ
sections_text letter number bs = numbered (section_text letter) number bs

abbrev pub link_text : ℕ → List ℕ → List ℕ
link_text number line = all_written (link_nodes number line)

-- up to the pictures
abbrev pub front_text : List ℕ → List (List ℕ) → List (List ℕ) → List (List ℕ) → List ℕ
front_text title above rows below =
    begun_text Html ((Chars (codes "http://www.w3.org/1999/xhtml") ∷ []) ∷ [])
    ++ (all_written (Break ∷ head_node title ∷ Break ∷ [])
    ++ (begun_text Body []
    ++ (all_written (Break ∷ hidden ∷ Break ∷ labelled Heading [] (Chars title ∷ []) ∷ Break ∷ [])
    ++ all_written (lines_nodes above rows below))))

abbrev pub back_text : List ℕ
back_text = (ended_text Body ++ 10 ∷ []) ++ (ended_text Html ++ 10 ∷ [])

abbrev pub page_text : List ℕ → List (List ℕ) → List (List ℕ) → List (List ℕ) → List (List ℕ)
    → List (List ℕ) → List ℕ
page_text title above rows below limits cases =
    front_text title above rows below
    ++ (sections_text (codes "f") 1 limits ++ (sections_text (codes "k") 1 cases ++ back_text))

-- So a page of the pictures of sketches is the page of those.
abbrev pub PagesAreWritten : Type 0
PagesAreWritten =
    (p : Page) →
    page_text p.title p.above p.rows p.below (map picture p.limits) (map picture p.cases) ≡ page p
