-- Laws of what the bytes of a text draw, whichever they are.
use Rattle.std.specs.Prelude.{◌≡◌, ℕ, List, ◌⊎◌}
use Rattle.scald_base.specs.declared.refusal.Refusal.{Refusal}
use Rattle.scald_lex.specs.Place.{IsPlaceOf}
use Rattle.drawing_tree.specs.Tree.{Drawing}
use Rattle.drawing_tree.specs.EachPlace.{EachPlace}
use Rattle.drawing_tree.specs.Canonical.{canonical}
use Rattle.drawing_grammar.specs.CanonicalDraws.{TextDraws, IsShallowDrawing}
use Rattle.drawing_grammar.specs.Refused.{IsRefusal}

-- Each text draws a drawing, or it is refused.
abbrev pub DrawnOrRefused : Type 0
DrawnOrRefused = (text : List ℕ) → ((d : Drawing) × TextDraws text d)
    ⊎ ((r : Refusal) × IsRefusal text r)

-- A text draws one drawing alone.
abbrev pub OneDrawing : Type 0
OneDrawing = (text : List ℕ) (d e : Drawing) → TextDraws text d → TextDraws text e → d ≡ e

-- A text is refused for one reason, at one place.
abbrev pub OneRefusal : Type 0
OneRefusal = (text : List ℕ) (r s : Refusal) → IsRefusal text r → IsRefusal text s → r ≡ s

-- A text that is refused draws nothing.
abbrev pub NotBoth : Type 0
NotBoth = (text : List ℕ) (r : Refusal) (d : Drawing) → IsRefusal text r → ¬ TextDraws text d

-- A text is refused at the place of one of its bytes, or of its end.
abbrev pub RefusedAtBytes : Type 0
RefusedAtBytes = (text : List ℕ) (r : Refusal) → IsRefusal text r → IsPlaceOf text r.place

-- Each place that stands in its drawing is that of one of its bytes, or of its end.
abbrev pub DrawnAtBytes : Type 0
DrawnAtBytes = (text : List ℕ) (d : Drawing) → TextDraws text d → EachPlace (IsPlaceOf text) d

-- If the canonical text of a drawing draws one, so if it is within the limits, the drawing is
-- shallow. With CanonicalDraws the canonical text of a drawing that some text draws is within the
-- limits exactly if that is shallow.
abbrev pub ShallowWhereDrawn : Type 0
ShallowWhereDrawn = (text : List ℕ) (d e : Drawing) → TextDraws text d → TextDraws (canonical d) e →
    IsShallowDrawing d
