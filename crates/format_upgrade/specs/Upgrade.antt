-- What an upgraded text draws.
use Rattle.std.specs.Prelude.{◌≡◌, ℕ, List}
use Rattle.drawing_tree.specs.Tree.{Drawing}
use Rattle.drawing_grammar.specs.CanonicalDraws.{TextDraws, IsShallowDrawing}
use Rattle.macro_expander.specs.Named.{State}
use Rattle.macro_expander.specs.Outcome.{Gives}
use Rattle.macro_expander.specs.Flat.{flat}
use Rattle.macro_expander.specs.Cases.{cases_of}
use Rattle.format_upgrade.specs.SameCircuit.{SameCircuit, SameCases}

-- The text draws a drawing of version 2 with this flat circuit and the same cases.
pub record DrawsSame (text : List ℕ) (d : Drawing) (circuit : State) : Type 0 where
  pub drawing : Drawing
  pub drawn : TextDraws text drawing
  pub version : drawing.version ≡ 2
  pub state : State
  pub expanded : flat drawing ≡ Gives tt state
  pub same : SameCircuit circuit state
  pub cases : SameCases (cases_of circuit d) (cases_of state drawing)

-- If some text draws the drawing, that nests no deeper than a text may, and it has a flat
-- circuit, the text draws one with the same circuit.
abbrev pub KeepsCircuit : Drawing → List ℕ → Type 0
KeepsCircuit d text =
    (source : List ℕ) (circuit : State) → TextDraws source d → IsShallowDrawing d →
    flat d ≡ Gives tt circuit →
    DrawsSame text d circuit
