-- The numbers of cases, computed for no case, for two and for the most that a drawing may have.
use Rattle.std.proofs.Common.{◌≡◌, List, [], ◌∷◌, map, refl}
use Rattle.std.specs.Prelude.{replicate}
use Rattle.std.specs.List.{range_with_len}
use Rattle.flat_circuit.specs.declared.case.CaseValue.{CaseValue}
use Rattle.timing_analysis.specs.Case.{Listed, listed_cases, numbered}

-- Without a case of its own a drawing has the case of number 0, which sets no net.
no_case : listed_cases [] ≡ record { number = 0; values = [] } ∷ []
no_case = refl

two_cases : (vs ws : List CaseValue) →
    listed_cases (vs ∷ ws ∷ []) ≡
    record { number = 1; values = vs } ∷ record { number = 2; values = ws } ∷ []
two_cases vs ws = refl

most_cases :
    map (λ (case : Listed). case.number) (listed_cases (replicate 256 [])) ≡ range_with_len 1 256
most_cases = refl

later_cases : (vs : List CaseValue) →
    numbered 100 (vs ∷ vs ∷ []) ≡
    record { number = 100; values = vs } ∷ record { number = 101; values = vs } ∷ []
later_cases vs = refl
