-- Where kinds of a type and parameters are looked for.
use Rattle.std.specs.Prelude.{◌≡◌, ℕ, ◌≤◌, Bool, false, ◌&&◌, List, length, take, Option, unwrap_or}
use Rattle.std.specs.List.{list_any}
use Rattle.std.specs.Map.{lookup}
use Rattle.std.specs.Str.{bytes_eq}
use Rattle.netlist_import.specs.declared.kinds.Kind.{Kind}
use Rattle.netlist_import.specs.declared.kinds.Sort.{Sort}

-- two sorts are one
abbrev pub is_sort : Sort → Sort → Bool
is_sort s t = bytes_eq s.kind.now t.kind.now && bytes_eq s.parameters.now t.parameters.now

-- a kind has this type and these parameters
abbrev pub has_sort : Sort → Kind → Bool
has_sort s k = bytes_eq s.kind.now k.kind && bytes_eq s.parameters.now k.parameters

-- from which of so many kinds on they are looked for
abbrev pub start_of : List (Sort × ℕ) → ℕ → Sort → ℕ
start_of starts count s = unwrap_or (lookup (is_sort s) starts) count

-- No kind before the start has the sort.
pub record IsStart (kinds : List Kind) (s : Sort) (start : ℕ) : Type 0 where
  pub within : start ≤ length kinds
  pub none : list_any (has_sort s) (take start kinds) ≡ false

abbrev pub AreStarts : List Kind → List (Sort × ℕ) → Type 0
AreStarts kinds starts = (s : Sort) → IsStart kinds s (start_of starts (length kinds) s)
