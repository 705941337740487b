-- Nets by whole names, and the order of names.
use Rattle.std.specs.Prelude.{◌≡◌, ℕ, ◌<◌, List, [], length, slice_index_or}
use Rattle.std.specs.List.{range_with_len}
use Rattle.std.specs.List.Sorted.{IsPermutation, IsSortedByKey}
use Rattle.std.specs.declared.cmp.Ordering.{Ordering}
use Rattle.std.specs.Ordering.{ordering_then, nat_cmp}
use Rattle.std.specs.Cmp.Lexicographic.{slice_cmp}

-- the whole text of path and base name, and the bit's number
pub record Name : Type 0 where
  pub text : List ℕ
  pub bit : ℕ

abbrev pub nameless : Name
nameless = record { text = []; bit = 0 }

abbrev pub name_at : List Name → ℕ → Name
name_at names i = slice_index_or names i nameless

-- the number of a name: where it stands
pub record IsNumber (names : List Name) (name : Name) (i : ℕ) : Type 0 where
  pub below : i < length names
  pub is : name_at names i ≡ name

-- no name twice
abbrev pub AreDistinct : List Name → Type 0
AreDistinct names =
    (i j : ℕ) → i < length names → j < length names → name_at names i ≡ name_at names j → i ≡ j

-- by the texts as bytes, and then by the bits as numbers
abbrev pub name_cmp : Name → Name → Ordering
name_cmp a b = ordering_then (slice_cmp nat_cmp a.text b.text) (nat_cmp a.bit b.bit)

-- all numbers, each once, in the order of their names
pub record IsNameOrder (names : List Name) (order : List ℕ) : Type 0 where
  pub each : IsPermutation (range_with_len 0 (length names)) order
  pub sorted : IsSortedByKey (name_at names) name_cmp order

-- the number of the net at a place in the order; past the last place, 0
abbrev pub net_at : List ℕ → ℕ → ℕ
net_at order place = slice_index_or order place 0
