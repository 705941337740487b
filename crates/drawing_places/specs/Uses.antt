-- The uses of macros that a path leads through.
use Rattle.std.specs.Prelude.{ℕ, List, [], ◌∷◌, Option, Some, None, if◌then◌else◌}
use Rattle.std.specs.Str.{bytes_eq}
use Rattle.drawing_tree.specs.Tree.{Drawing, Macro, Statement, Use, Wire, If, For, Statements, nil, UseStatement}
use Rattle.macro_expander.specs.Macros.{macro_of}
use Rattle.drawing_places.specs.Path.{labels_of}
use Rattle.drawing_places.specs.Find.{first_found}
use Rattle.drawing_places.specs.Body.{written_of}

abbrev pub use_labelled : List ℕ → Statement → Option UseStatement
use_labelled label (Use u) = if bytes_eq u.label label then Some u else None
use_labelled label (Wire w) = None
use_labelled label (If test taken other place) = None
use_labelled label (For var first last body place) = None

-- The use with a label, which stands once in a body.
abbrev pub use_in : Statements → List ℕ → Option UseStatement
use_in body label = first_found (use_labelled label) (written_of body)

abbrev pub body_in : Option Macro → Statements
body_in None = nil
body_in (Some m) = m.body

abbrev pub body_of : List Macro → UseStatement → Statements
body_of macros u = body_in (macro_of u.kind macros)

-- a use, and those from its body on
abbrev pub use_then : List Macro → (Statements → List UseStatement) → Option UseStatement →
    List UseStatement
use_then macros others None = []
use_then macros others (Some u) = u ∷ others (body_of macros u)

-- the uses from a body on, as far as its labels lead
abbrev pub uses_from : List Macro → Statements → List (List ℕ) → List UseStatement
uses_from macros body [] = []
uses_from macros body (label ∷ labels) =
    use_then macros (λ inner. uses_from macros inner labels) (use_in body label)

-- the uses that a scope is in, from the drawing down
abbrev pub uses_through : Drawing → List ℕ → List UseStatement
uses_through d scope = uses_from d.macros d.body (labels_of scope)

-- the body that uses lead to
abbrev pub body_after : List Macro → Statements → List UseStatement → Statements
body_after macros body [] = body
body_after macros body (u ∷ us) = body_after macros (body_of macros u) us

-- the statements of a scope
abbrev pub scope_body : Drawing → List ℕ → Statements
scope_body d scope = body_after d.macros d.body (uses_through d scope)
