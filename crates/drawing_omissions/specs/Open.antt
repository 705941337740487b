-- Whether some bits of the nets that cases name are in no case.
use Rattle.std.specs.Prelude.{ℕ, zero, suc, ◌-◌, ◌^◌, ◌==◌, nat_lt, nat_le, Bool, true, false, not, List, [], ◌∷◌, ◌++◌, fold, length, max, if◌then◌else◌, Option, Some, None}
use Rattle.std.specs.List.{count_by, list_any, range_with_len, sum_by}
use Rattle.flat_circuit.specs.declared.case.CaseValue.{CaseValue}
use Rattle.drawing_omissions.specs.Same.{are_in, case_at, first_same}

-- ---- which nets

-- each once
abbrev pub and_net : List ℕ → CaseValue → List ℕ
and_net nets v = if list_any (λ i. v.net == i) nets then nets else nets ++ v.net ∷ []

abbrev pub and_nets : List ℕ → List CaseValue → List ℕ
and_nets nets values = fold and_net nets values

abbrev pub named : List (List CaseValue) → List ℕ
named cases = fold and_nets [] cases

-- ---- combinations one by one

abbrev pub with_bit : List CaseValue → ℕ → Bool → List CaseValue
with_bit bits net one = bits ++ record { net = net; one = one } ∷ []

-- all ways to give bits to nets, after these bits
abbrev pub combinations : List CaseValue → List ℕ → List (List CaseValue)
combinations bits [] = bits ∷ []
combinations bits (net ∷ nets) =
    combinations (with_bit bits net false) nets ++ combinations (with_bit bits net true) nets

-- the bits are those of a case: it gives no net another one
abbrev pub is_covered : List (List CaseValue) → List CaseValue → Bool
is_covered cases bits = list_any (are_in bits) cases

abbrev pub lacks_some : List (List CaseValue) → Bool
lacks_some cases = list_any (λ bits. not (is_covered cases bits)) (combinations [] (named cases))

-- ---- how many of all combinations

abbrev pub most_entries : List (List CaseValue) → ℕ
most_entries cases = fold (λ most values. max most (length values)) 0 cases

-- How many parts of all combinations are those of a case of so many entries, if these are cut
-- into 2 to the power of `most` parts. A case that stands before has none.
abbrev pub parts_for : ℕ → Option ℕ → ℕ → ℕ
parts_for most None entries = if nat_le entries most then 2 ^ (most - entries) else 0
parts_for most (Some j) entries = 0

abbrev pub parts_of : List (List CaseValue) → ℕ → ℕ → ℕ
parts_of cases most k = parts_for most (first_same cases k) (length (case_at cases k))

abbrev pub parts : List (List CaseValue) → ℕ → ℕ
parts cases most = sum_by (parts_of cases most) (range_with_len 0 (length cases))

-- different cases do not add up to all parts
abbrev pub lacks_more : List (List CaseValue) → Bool
lacks_more cases = nat_lt (parts cases (most_entries cases)) (2 ^ most_entries cases)

-- ---- the same by one entry more after the other

abbrev pub is_new_of : ℕ → Option ℕ → ℕ → Bool
is_new_of entries None own = own == entries
is_new_of entries (Some j) own = false

-- a case of so many entries that does not stand before
abbrev pub is_new : List (List CaseValue) → ℕ → ℕ → Bool
is_new cases entries k = is_new_of entries (first_same cases k) (length (case_at cases k))

abbrev pub count_at : List (List CaseValue) → ℕ → ℕ
count_at cases entries = count_by (is_new cases entries) (range_with_len 0 (length cases))

-- the parts of cases with fewer entries, as they are before these are cut once more
abbrev pub parts_before : List (List CaseValue) → ℕ → ℕ
parts_before cases zero = 0
parts_before cases (suc entries) = parts cases entries

-- ---- either

-- the most nets whose combinations are looked at one by one
abbrev pub most_combined : ℕ
most_combined = 12

abbrev pub is_open : List (List CaseValue) → Bool
is_open [] = false
is_open (first ∷ others) =
    if nat_le (length (named (first ∷ others))) most_combined
    then lacks_some (first ∷ others)
    else lacks_more (first ∷ others)
