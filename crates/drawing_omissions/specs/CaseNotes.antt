-- CASES: cases that stand twice, and bits of their nets that none of them has.
use Rattle.std.specs.Prelude.{ℕ, ◌+◌, Bool, List, [], ◌∷◌, ◌++◌, length, codes, decimal, slice_index_or, if◌then◌else◌, Option, Some, None}
use Rattle.std.specs.List.{flat_map, range_with_len}
use Rattle.flat_circuit.specs.declared.case.CaseValue.{CaseValue}
use Rattle.drawing_omissions.specs.Same.{first_same}
use Rattle.drawing_omissions.specs.Open.{is_open}
use Rattle.listing.specs.Text.{line}

-- ---- cases that stand twice

-- Numbers count from 0 here, and from 1 in the line.
unfoldable pub same_line : ℕ → ℕ → List ℕ
same_line k j =
    line (codes "NOTE CASES " ∷ decimal (k + 1) ∷ codes " SAME " ∷ decimal (j + 1) ∷ [])

abbrev pub same_to : ℕ → Option ℕ → List (List ℕ)
same_to k None = []
same_to k (Some j) = same_line k j ∷ []

abbrev pub same_at : List (List CaseValue) → ℕ → List (List ℕ)
same_at cases k = same_to k (first_same cases k)

-- by a list of those earlier cases
abbrev pub same_in : List (Option ℕ) → ℕ → List (List ℕ)
same_in firsts k = same_to k (slice_index_or firsts k None)

abbrev pub sames : List (Option ℕ) → List (List ℕ)
sames firsts = flat_map (same_in firsts) (range_with_len 0 (length firsts))

-- ---- bits that no case has

unfoldable pub open_line : List ℕ
open_line = line (codes "NOTE CASES OPEN" ∷ [])

abbrev pub open_if : Bool → List (List ℕ)
open_if is_open = if is_open then open_line ∷ [] else []

-- ---- both

-- by their numbers, and then of all of them
abbrev pub case_notes : List (List CaseValue) → List (List ℕ)
case_notes cases =
    flat_map (same_at cases) (range_with_len 0 (length cases)) ++ open_if (is_open cases)
