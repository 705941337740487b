-- Which circuit a text draws, or why it is refused.
use Rattle.std.specs.Prelude.{◌≡◌, ℕ, List, map, Ok, Err}
use Rattle.std.specs.List.{All}
use Rattle.scald_base.specs.declared.refusal.Refusal.{Refusal}
use Rattle.scald_base.specs.declared.refusal.Stop.TheVariants.{Refused}
use Rattle.drawing_tree.specs.Tree.{Drawing}
use Rattle.drawing_grammar.specs.CanonicalDraws.{TextDraws}
use Rattle.drawing_grammar.specs.Refused.{IsRefusal}
use Rattle.flat_circuit.specs.declared.case.CaseValue.{CaseValue}
use Rattle.flat_circuit.specs.Circuit.{Circuit, IsCircuit}
use Rattle.macro_expander.specs.Cases.{cases_of}
use Rattle.macro_expander.specs.Stands.{IsCircuitOf, IsStopOf}
use Rattle.fixpoint_engine.specs.Loops.{HasNoLoop}
use Rattle.case_analysis.specs.Listed.{IsListed, bits_of}

-- The text draws this drawing, whose circuit is this.
pub record Draws (text : List ℕ) (d : Drawing) (c : Circuit) : Type 0 where
  pub drawn : TextDraws text d
  pub circuit : IsCircuitOf d c
  pub is_circuit : IsCircuit c

-- Why nothing of the text is evaluated: it draws no drawing; or that is refused in expansion, or by
-- a rule of circuits; or its cases are refused.
pub data IsTextRefused (text : List ℕ) (r : Refusal) : Type 0 where
  undrawn : IsRefusal text r → IsTextRefused text r
  unexpanded : (d : Drawing) → TextDraws text d → IsStopOf d (Refused r) → IsTextRefused text r
  wrong_cases : (d : Drawing) (c : Circuit) (draws : Draws text d c) →
      cases_of draws.circuit.state d ≡ Err r → IsTextRefused text r

-- The text draws this circuit with these cases, and nothing of it is refused.
pub record DrawsCircuit (text : List ℕ) (c : Circuit) (cases : List (List CaseValue)) : Type 0 where
  pub drawing : Drawing
  pub draws : Draws text drawing c
  pub are : cases_of draws.circuit.state drawing ≡ Ok (map (bits_of c.nets) cases)
  pub listed : All (IsListed c) cases

-- The same, by this drawing.
pub record DrawsBy (text : List ℕ) (d : Drawing) (c : Circuit) (cases : List (List CaseValue)) :
    Type 0 where
  pub draws : DrawsCircuit text c cases
  pub drawing : draws.drawing ≡ d

-- no net of the circuit that the text draws is reached from itself through listening pins
abbrev pub IsLoopless : List ℕ → Type 0
IsLoopless text =
    (c : Circuit) (cases : List (List CaseValue)) → DrawsCircuit text c cases → HasNoLoop c
