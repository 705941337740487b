-- Laws of texts and the circuits that they draw.
use Rattle.std.specs.Prelude.{◌≡◌, ℕ, List}
use Rattle.scald_base.specs.declared.refusal.Refusal.{Refusal}
use Rattle.scald_lex.specs.Place.{IsPlaceOf}
use Rattle.flat_circuit.specs.declared.case.CaseValue.{CaseValue}
use Rattle.flat_circuit.specs.Circuit.{Circuit}
use Rattle.timing_analysis.specs.Drawn.{DrawsCircuit, IsTextRefused}

-- a text draws one circuit at most, with the same cases
abbrev pub OneCircuit : Type 0
OneCircuit =
    (text : List ℕ) (c c' : Circuit) (cases cases' : List (List CaseValue)) →
    DrawsCircuit text c cases → DrawsCircuit text c' cases' → (c ≡ c') × (cases ≡ cases')

-- a text is refused for one reason, at one place
abbrev pub OneRefusal : Type 0
OneRefusal =
    (text : List ℕ) (r q : Refusal) → IsTextRefused text r → IsTextRefused text q → r ≡ q

-- a text that is refused draws no circuit
abbrev pub NotBoth : Type 0
NotBoth =
    (text : List ℕ) (r : Refusal) (c : Circuit) (cases : List (List CaseValue)) →
    IsTextRefused text r → ¬ DrawsCircuit text c cases

-- a text is refused at the place of one of its bytes, or of its end
abbrev pub RefusalsArePlaced : Type 0
RefusalsArePlaced = (text : List ℕ) (r : Refusal) → IsTextRefused text r → IsPlaceOf text r.place
