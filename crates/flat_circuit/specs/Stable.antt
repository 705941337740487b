-- Classes of nets within which nothing tells the nets apart.
use Rattle.std.specs.Prelude.{◌≡◌, ℕ, ◌<◌, List, slice_get, Some}
use Rattle.std.specs.List.{All}
use Rattle.flat_circuit.specs.declared.case.CaseValue.{CaseValue}
use Rattle.flat_circuit.specs.declared.net.Net.{Net}
use Rattle.flat_circuit.specs.Circuit.{Circuit}
use Rattle.flat_circuit.specs.Alike.{class_of, value_in, NetsAlike}

-- the nets of two numbers are alike, if there are such nets
abbrev pub AreAlikeAt : Circuit → List (List CaseValue) → List ℕ → ℕ → ℕ → Type 0
AreAlikeAt c cases classes i j =
    (m n : Net) → slice_get c.nets i ≡ Some m → slice_get c.nets j ≡ Some n →
    NetsAlike c cases classes i j m n

-- nets of one class are alike
abbrev pub IsStable : Circuit → List (List CaseValue) → List ℕ → Type 0
IsStable c cases classes =
    (i j : ℕ) → class_of classes i ≡ class_of classes j → AreAlikeAt c cases classes i j

-- a net is as each net of its class before it
abbrev pub AreAlikeBefore : Circuit → List (List CaseValue) → List ℕ → ℕ → Type 0
AreAlikeBefore c cases classes i =
    (j : ℕ) → j < i → class_of classes i ≡ class_of classes j → AreAlikeAt c cases classes i j

-- each class has the number of one of its nets
abbrev pub AreNumbersOfNets : List ℕ → Type 0
AreNumbersOfNets classes = All (λ (number : ℕ). slice_get classes number ≡ Some number) classes

-- a case gives each net the value that it gives the net of its class's number
abbrev pub IsAsNumbersIn : ℕ → List ℕ → List CaseValue → Type 0
IsAsNumbersIn nets classes values =
    (i : ℕ) → i < nets → value_in values i ≡ value_in values (class_of classes i)
