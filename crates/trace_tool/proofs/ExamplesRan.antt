-- Which case is asked for, by its number.
use Rattle.std.proofs.Common.{◌≡◌, Bool, true, false, List, [], ◌∷◌, Some, None, refl}
use Rattle.flat_circuit.specs.declared.case.CaseValue.{CaseValue}
use Rattle.trace_tool.specs.Ran.{case_asked}

-- two cases, which set net 4 to 0 and to 1
abbrev sets : Bool → List CaseValue
sets one = record { net = 4; one = one } ∷ []

abbrev both : List (List CaseValue)
both = sets false ∷ sets true ∷ []

-- case 0, which sets nothing
no_word : case_asked None both ≡ Some []
no_word = refl

no_word_of_none : case_asked None [] ≡ Some []
no_word_of_none = refl

first : case_asked (Some 1) both ≡ Some (sets false)
first = refl

last : case_asked (Some 2) both ≡ Some (sets true)
last = refl

past_last : case_asked (Some 3) both ≡ None
past_last = refl

first_of_none : case_asked (Some 1) [] ≡ None
first_of_none = refl
