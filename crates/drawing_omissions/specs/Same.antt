-- Cases that stand twice.
use Rattle.std.specs.Prelude.{◌≡◌, ℕ, ◌<◌, ◌==◌, Bool, ◌&&◌, List, [], false, length, map, slice_index_or, if◌then◌else◌, Option}
use mathlib.Core.Bool.{beq}
use Rattle.std.specs.List.{All, find, list_all, list_any, range_with_len}
use Rattle.flat_circuit.specs.declared.case.CaseValue.{CaseValue}
use Rattle.drawing_omissions.specs.declared.held.Held.{Held}

abbrev pub same_value : CaseValue → CaseValue → Bool
same_value v w = (v.net == w.net) && beq v.one w.one

abbrev pub is_in : List CaseValue → CaseValue → Bool
is_in values v = list_any (same_value v) values

-- all of these are in the first
abbrev pub are_in : List CaseValue → List CaseValue → Bool
are_in values others = list_all (is_in values) others

-- as many entries, and those of the second are in the first (no case names a net twice)
abbrev pub are_same : List CaseValue → List CaseValue → Bool
are_same a b = (length a == length b) && are_in a b

-- the case of a number from 0
abbrev pub case_at : List (List CaseValue) → ℕ → List CaseValue
case_at cases k = slice_index_or cases k []

abbrev pub is_same_at : List (List CaseValue) → ℕ → ℕ → Bool
is_same_at cases k j = are_same (case_at cases k) (case_at cases j)

-- the first of the cases before it that has its entries
abbrev pub first_same : List (List CaseValue) → ℕ → Option ℕ
first_same cases k = find (is_same_at cases k) (range_with_len 0 k)

abbrev pub firsts_same : List (List CaseValue) → List (Option ℕ)
firsts_same cases = map (first_same cases) (range_with_len 0 (length cases))

-- the nets that these cases name are below this number
abbrev pub AreWithin : ℕ → List (List CaseValue) → Type 0
AreWithin nets cases = All (All (λ (v : CaseValue). v.net < nets)) cases

-- ---- by marks

abbrev pub marked : List Bool → ℕ → Bool
marked marks i = slice_index_or marks i false

-- the bit is marked
abbrev pub is_held : Held → CaseValue → Bool
is_held h v = if v.one then marked h.ones.items v.net else marked h.zeros.items v.net

-- exactly these bits are marked
abbrev pub AreHeld : List CaseValue → Held → Type 0
AreHeld values h = (v : CaseValue) → is_held h v ≡ is_in values v

-- with a mark for each net
pub record IsOver (nets : ℕ) (h : Held) : Type 0 where
  pub zeros : length h.zeros.items ≡ nets
  pub ones : length h.ones.items ≡ nets
