-- Cases that stand twice, and cases that cover all or not.
use Rattle.std.specs.Prelude.{◌≡◌, Bool, true, false, List, [], ◌∷◌, ℕ, map, Some, None}
use Rattle.std.specs.List.{range_with_len}
use Rattle.std.proofs.Common.{refl}
use Rattle.flat_circuit.specs.declared.case.CaseValue.{CaseValue}
use Rattle.drawing_omissions.specs.Same.{firsts_same}
use Rattle.drawing_omissions.specs.Open.{is_open, lacks_more, lacks_some}

abbrev bit : ℕ → Bool → CaseValue
bit net one = record { net = net; one = one }

-- net 0, or nets 0 and 1
abbrev one : Bool → List CaseValue
one a = bit 0 a ∷ []

abbrev two : Bool → Bool → List CaseValue
two a b = bit 0 a ∷ bit 1 b ∷ []

in_another_order : firsts_same (two false true ∷ (bit 1 true ∷ bit 0 false ∷ []) ∷ two false false ∷ one false ∷ two false true ∷ [])
    ≡ None ∷ Some 0 ∷ None ∷ None ∷ Some 0 ∷ []
in_another_order = refl

-- an entry more, or one less, makes another case
of_another_length : (firsts_same (one false ∷ two false true ∷ []) ≡ None ∷ None ∷ [])
    × (firsts_same (two false true ∷ one false ∷ []) ≡ None ∷ None ∷ [])
of_another_length = (refl, refl)

-- each by both rules, which agree where no two cases have a run in common
abbrev each : (List (List CaseValue) → Bool) → List Bool
each lacks = map lacks (
    (one false ∷ [])
    ∷ (one false ∷ one true ∷ [])
    ∷ (two false false ∷ two false true ∷ two true true ∷ [])
    ∷ (two false false ∷ two false true ∷ one true ∷ [])
    ∷ (one false ∷ one false ∷ [])
    ∷ [])

one_by_one : each lacks_some ≡ true ∷ false ∷ true ∷ false ∷ true ∷ []
one_by_one = refl

by_parts : each lacks_more ≡ true ∷ false ∷ true ∷ false ∷ true ∷ []
by_parts = refl

either : each is_open ≡ true ∷ false ∷ true ∷ false ∷ true ∷ []
either = refl

-- cases that overlap: half and half are no whole
overlapping : lacks_some (one false ∷ (bit 1 false ∷ []) ∷ []) ≡ true
overlapping = refl

-- of 12 nets each combination counts, and of 13 the sum alone, which is more than a whole here
abbrev halves_beside : ℕ → List (List CaseValue)
halves_beside others =
    one true ∷ (bit 1 true ∷ []) ∷ map (λ net. bit net true) (range_with_len 2 others) ∷ []

twelve_nets : is_open (halves_beside 10) ≡ true
twelve_nets = refl

thirteen_nets : is_open (halves_beside 11) ≡ false
thirteen_nets = refl

no_case : is_open [] ≡ false
no_case = refl
