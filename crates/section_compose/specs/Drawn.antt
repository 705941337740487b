-- The section that a text draws, and why it draws none.
use Rattle.std.specs.Prelude.{◌≡◌, ◌==◌, ℕ, Bool, not, List, length}
use Rattle.scald_base.specs.declared.refusal.Refusal.{Refusal}
use Rattle.scald_base.specs.declared.refusal.Stop.TheVariants.{Refused as StopsRefused}
use Rattle.drawing_tree.specs.Tree.{Drawing}
use Rattle.drawing_grammar.specs.CanonicalDraws.{TextDraws}
use Rattle.drawing_grammar.specs.Refused.{IsRefusal}
use Rattle.macro_expander.specs.Stands.{IsStopOf}
use Rattle.timing_analysis.specs.Drawn.{Draws}
use Rattle.section_compose.specs.declared.section.Section.{Section}

abbrev pub is_listed : {A : Type 0} → List A → Bool
is_listed xs = not (length xs == 0)

-- The text draws the section: its circuit, by the version of its drawing, and whether it lists a
-- case.
pub record DrawsSection (text : List ℕ) (section : Section) : Type 0 where
  pub drawing : Drawing
  pub draws : Draws text drawing section.circuit
  pub version : section.version ≡ drawing.version
  pub cases : section.has_case ≡ is_listed drawing.cases

-- Why a section is refused: its text draws no drawing, or that is refused in expansion or by a rule
-- of circuits. Its cases are not looked at.
pub data IsSectionRefused (text : List ℕ) (r : Refusal) : Type 0 where
  undrawn : IsRefusal text r → IsSectionRefused text r
  unexpanded : (d : Drawing) → TextDraws text d → IsStopOf d (StopsRefused r) →
      IsSectionRefused text r
