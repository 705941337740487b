-- The ideal clock of an assertion, and where its edges may lie.
use Rattle.std.specs.Prelude.{◌≡◌, ◌≢◌, ℕ, ◌+◌, ◌-◌, ◌*◌, ◌/◌, ◌%◌, ◌<◌, ◌≤◌, Bool, not, if◌then◌else◌}
use Rattle.std.specs.List.{list_any}
use Rattle.scald_base.specs.declared.assertion.ClockSpec.{ClockSpec}
use Rattle.scald_base.specs.Time.{Header, period}
use Rattle.scald_base.specs.Span.{holds_unit}

-- The clock without any skew, at a tick of the period: 1 in the units of its intervals, or 0 there
-- if it is complemented.
abbrev pub ideal : ClockSpec → Header → ℕ → Bool
ideal c h tick =
    let inside = list_any (λ s. holds_unit s (tick / h.ticks)) c.spans in if c.low then not inside
    else inside

-- The slot o slots before a slot t, in a period of p slots: one slot back is p - 1 slots on.
unfoldable pub back : ℕ → ℕ → ℕ → ℕ
back p t o = (t + o * (p - 1)) % p

-- At this slot the ideal clock steps to this bit.
pub record IsEdge (c : ClockSpec) (h : Header) (to : Bool) (slot : ℕ) : Type 0 where
  pub within : slot < period h
  pub before : ideal c h (back (period h) slot 1) ≡ not to
  pub after : ideal c h slot ≡ to

-- An edge may come so many ticks early and late: the slot is one of its region.
pub record IsInRegion (c : ClockSpec) (h : Header) (early late : ℕ) (to : Bool)
    (edge slot : ℕ) : Type 0 where
  pub is_edge : IsEdge c h to edge
  pub by : ℕ
  pub near : by ≤ early + late
  pub there : back (period h) (slot + early) by ≡ edge

-- Two edges' regions share a slot.
pub record SharesSlot (c : ClockSpec) (h : Header) (early late : ℕ) : Type 0 where
  pub to : Bool
  pub edge : ℕ
  pub other_to : Bool
  pub other : ℕ
  pub slot : ℕ
  pub apart : edge ≢ other
  pub of_one : IsInRegion c h early late to edge slot
  pub of_other : IsInRegion c h early late other_to other slot

-- An edge's region is longer than the period.
pub record IsTooWide (c : ClockSpec) (h : Header) (early late : ℕ) : Type 0 where
  pub to : Bool
  pub edge : ℕ
  pub is_edge : IsEdge c h to edge
  pub wide : period h < early + late + 1
