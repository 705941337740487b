-- Assertions that fit a header: first their intervals, then the regions of a clock's edges.
use Rattle.std.specs.Prelude.{ℕ, List, All, unwrap_or, ◌⊎◌, ⊤}
use Rattle.scald_base.specs.declared.assertion.Span.{Span}
use Rattle.scald_base.specs.declared.assertion.ClockSpec.{ClockSpec}
use Rattle.scald_base.specs.declared.assertion.AssertSpec.{AssertSpec}
use Rattle.scald_base.specs.declared.assertion.AssertSpec.TheVariants.{None as Unasserted, Precision, Clock, Stable}
use Rattle.scald_base.specs.Time.{Header}
use Rattle.scald_base.specs.Span.{SpanFits}
use Rattle.scald_base.specs.Clock.{SharesSlot, IsTooWide}

-- each interval is one of the header's units
abbrev pub SpansFit : Header → List Span → Type 0
SpansFit h spans = All (SpanFits h.units) spans

abbrev pub IntervalsFit : Header → AssertSpec → Type 0
IntervalsFit h Unasserted = ⊤
IntervalsFit h (Precision c) = SpansFit h c.spans
IntervalsFit h (Clock c) = SpansFit h c.spans
IntervalsFit h (Stable spans) = SpansFit h spans

-- how early and late a clock's edges may come: as its name says, or else as the header does
abbrev pub skew_of : ClockSpec → (ℕ × ℕ) → (ℕ × ℕ)
skew_of c default = unwrap_or c.skew default

-- If each edge moves by itself, two regions that share a slot leave the clock's shape open.
abbrev pub EdgesOverlap : Header → AssertSpec → Type 0
EdgesOverlap h (Clock c) =
    let skew = skew_of c h.cskew in SharesSlot c h skew.0 skew.1 ⊎ IsTooWide c h skew.0 skew.1
EdgesOverlap h _ = ⊥

-- An assertion that a circuit may have.
pub record Fits (h : Header) (a : AssertSpec) : Type 0 where
  pub intervals : IntervalsFit h a
  pub edges : ¬ EdgesOverlap h a
