-- The nets of the case that parts make exist in the narrowed circuit.
use Rattle.std.proofs.Common.{◌≡◌, ℕ, ◌≤◌, ◌<◌, List, [], ◌∷◌, length, subst, sym, arith}
use Rattle.std.specs.List.{All, AllByRecursion}
use Rattle.std.proofs.lemmas.List.Elements.{All-append, All-cons, All-nil, recursion_from_All}
use Rattle.std.proofs.lemmas.Option.{slice_get_within}
use Rattle.flat_circuit.specs.declared.case.CaseValue.{CaseValue}
use Rattle.flat_circuit.specs.Circuit.{Circuit}
use Rattle.case_analysis.specs.Case.{NetsExist}
use Rattle.narrowing.specs.declared.part.Part.{Part}
use Rattle.narrowing.specs.declared.part.Part.TheVariants.{Constant, Delay, Offset, Rise, Fall}
use Rattle.narrowing.specs.Narrowed.{constants, narrowed, narrowed_cases, narrowed_values, only_case}
use Rattle.narrowing.specs.Part.{PartFits}
use Rattle.narrowing.proofs.Nets.{narrowed_nets_long}

abbrev Exists : ℕ → CaseValue → Type 0
Exists nets v = v.net < nets

constants_exist : (c : Circuit) (values : List CaseValue) (parts : List Part) → AllByRecursion (PartFits c values) parts →
    All (Exists (length c.nets)) (constants parts)
constants_exist c values [] fit = All-nil (Exists (length c.nets))
constants_exist c values (Constant net one ∷ ps) fit =
    All-cons (Exists (length c.nets)) (record { net = net; one = one }) (constants ps)
    (slice_get_within c.nets net fit.0.is fit.0.there) (constants_exist c values ps fit.1)
constants_exist c values (Delay k least greatest ∷ ps) fit = constants_exist c values ps fit.1
constants_exist c values (Rise k least greatest ∷ ps) fit = constants_exist c values ps fit.1
constants_exist c values (Fall k least greatest ∷ ps) fit = constants_exist c values ps fit.1
constants_exist c values (Offset net least greatest ∷ ps) fit = constants_exist c values ps fit.1

only_exists : (c : Circuit) (values : List CaseValue) → NetsExist c values → All (NetsExist c) (only_case values)
only_exists c [] exist = All-nil (NetsExist c)
only_exists c (v ∷ vs) exist = All-cons (NetsExist c) (v ∷ vs) [] exist (All-nil (NetsExist c))

only_few : (values : List CaseValue) → length (only_case values) ≤ 256
only_few [] = omega arith
only_few (v ∷ vs) = omega arith

pub cases_exist : (c d : Circuit) (values : List CaseValue) (parts : List Part) (cases : List (List CaseValue)) →
    d ≡ narrowed c parts → cases ≡ narrowed_cases values parts → NetsExist c values → All (PartFits c values) parts →
    All (NetsExist d) cases
cases_exist c d values parts cases is are exist fit =
    let all : All (Exists (length c.nets)) (narrowed_values values parts) =
    All-append (Exists (length c.nets)) values (constants parts) exist
    (constants_exist c values parts (recursion_from_All (PartFits c values) parts fit)) in
    let there : NetsExist (narrowed c parts) (narrowed_values values parts) =
    subst (λ (n : ℕ). All (Exists n) (narrowed_values values parts)) (sym (narrowed_nets_long c.header parts 0 c.nets))
    all in
    subst (λ (k : Circuit). All (NetsExist k) cases) (sym is)
    (subst (All (NetsExist (narrowed c parts))) (sym are)
    (only_exists (narrowed c parts) (narrowed_values values parts) there))

pub cases_few : (values : List CaseValue) (parts : List Part) (cases : List (List CaseValue)) →
    cases ≡ narrowed_cases values parts → length cases ≤ 256
cases_few values parts cases are =
    subst (λ (ks : List (List CaseValue)). length ks ≤ 256) (sym are) (only_few (narrowed_values values parts))
