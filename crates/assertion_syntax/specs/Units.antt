-- Units of intervals, found once for all units of a period.
use Rattle.std.specs.Prelude.{◌≡◌, ℕ, ◌<◌, ◌≤◌, Bool, true, false, if◌then◌else◌, List, max, nat_lt, slice_index_or, slice_set}
use Rattle.std.specs.List.{list_any}
use Rattle.scald_base.specs.declared.assertion.Span.{Span}
use Rattle.scald_base.specs.Span.{holds_unit}

-- An interval that begins in unit `begin` ends before unit `end`: of each beginning the greatest
-- end is kept.
abbrev pub longer : List ℕ → ℕ → ℕ → List ℕ
longer ends begin end = slice_set ends begin (max (slice_index_or ends begin 0) end)

-- One that goes over the period's end is one to its end, and one from its beginning.
abbrev pub with_span : ℕ → List ℕ → Span → List ℕ
with_span units ends s =
    if nat_lt s.lo s.hi then longer ends s.lo s.hi else longer (longer ends s.lo units) 0 s.hi

-- An interval that begins in this unit or before ends after it.
pub record IsCovered (ends : List ℕ) (unit : ℕ) : Type 0 where
  pub begin : ℕ
  pub before : begin ≤ unit
  pub reaches : unit < slice_index_or ends begin 0

-- the unit is of one of the intervals
abbrev pub is_held : List Span → ℕ → Bool
is_held spans unit = list_any (λ s. holds_unit s unit) spans

pub record IsEndsAt (ends : List ℕ) (spans : List Span) (unit : ℕ) : Type 0 where
  pub holds : IsCovered ends unit → is_held spans unit ≡ true
  pub covers : is_held spans unit ≡ true → IsCovered ends unit

-- These are the ends of the intervals, as far as the units of the period go.
pub record AreEnds (units : ℕ) (ends : List ℕ) (spans : List Span) : Type 0 where
  pub at : (unit : ℕ) → unit < units → IsEndsAt ends spans unit

-- This says of each unit of the period whether it is of an interval.
abbrev pub AreHeld : ℕ → List Bool → List Span → Type 0
AreHeld units held spans =
    (unit : ℕ) → unit < units → slice_index_or held unit false ≡ is_held spans unit
