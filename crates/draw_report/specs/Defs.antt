-- The hatches of values and the heads of arrows, which every picture has.
use Rattle.std.specs.Prelude.{List, [], ◌∷◌, codes, map, ℕ}
use Rattle.draw_report.specs.Element.{BarePath, Chars, Circle, Defs, Marker, Node, Path, Pattern, Rect, Word, empty, full}

-- values of attributes
abbrev pub values : List (List ℕ) → List (List Word)
values texts = map (λ (text : List ℕ). Chars text ∷ []) texts

abbrev pub pattern : List ℕ → List ℕ → List ℕ → List Node → Node
pattern id width height ns =
    full Pattern (values (id ∷ width ∷ height ∷ codes "userSpaceOnUse" ∷ [])) ns

abbrev pub hatch : List ℕ → Node
hatch data_ = empty Path (values (codes "hp" ∷ data_ ∷ []))

abbrev pub ground : List ℕ → List ℕ → List ℕ → Node
ground class width height = empty Rect (values (class ∷ width ∷ height ∷ []))

abbrev pub dot : List ℕ → List ℕ → Node
dot x y = empty Circle (values (codes "hd" ∷ x ∷ y ∷ codes "11" ∷ []))

abbrev pub arrowhead : List ℕ → List ℕ → Node
arrowhead id class =
    full Marker (values (id ∷ class ∷ codes "0 0 10 10" ∷ codes "9" ∷ codes "5" ∷ codes "90"
    ∷ codes "90" ∷ codes "userSpaceOnUse" ∷ codes "auto" ∷ []))
    (empty BarePath (values (codes "M0 1l9 4l-9 4z" ∷ [])) ∷ [])

abbrev pub defs : Node
defs =
    full Defs []
    (pattern (codes "hC") (codes "64") (codes "64")
    (ground (codes "hb") (codes "64") (codes "64") ∷ hatch (codes "M0 0l64 64M64 0l-64 64") ∷ [])
    ∷ pattern (codes "hR") (codes "64") (codes "64") (hatch (codes "M-8 72l80 -80") ∷ [])
    ∷ pattern (codes "hF") (codes "64") (codes "64") (hatch (codes "M-8 -8l80 80") ∷ [])
    ∷ pattern (codes "hU") (codes "90") (codes "80")
    (ground (codes "hu") (codes "90") (codes "80") ∷ dot (codes "25") (codes "22")
    ∷ dot (codes "70") (codes "62") ∷ [])
    ∷ arrowhead (codes "a1") (codes "mk1") ∷ arrowhead (codes "a2") (codes "mk2") ∷ [])
