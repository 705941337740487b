-- When two assertions are written alike.
use Rattle.std.specs.Prelude.{ℕ, Bool, true, false, not, ◌&&◌, ◌==◌, if◌then◌else◌, List, [], ◌∷◌, Option, Some, None}
use Rattle.scald_base.specs.declared.assertion.Span.{Span}
use Rattle.scald_base.specs.declared.assertion.ClockSpec.{ClockSpec}
use Rattle.scald_base.specs.declared.assertion.AssertSpec.{AssertSpec}
use Rattle.scald_base.specs.declared.assertion.AssertSpec.TheVariants.{None as Unasserted, Precision, Clock, Stable}

abbrev pub same_span : Span → Span → Bool
same_span a b = (a.lo == b.lo) && (a.hi == b.hi)

-- the same intervals in the same order
abbrev pub same_spans : List Span → List Span → Bool
same_spans [] [] = true
same_spans (a ∷ as') (b ∷ bs) = same_span a b && same_spans as' bs
same_spans _ _ = false

-- both without a skew, or with the same
abbrev pub same_skew : Option (ℕ × ℕ) → Option (ℕ × ℕ) → Bool
same_skew None None = true
same_skew (Some a) (Some b) = (a.0 == b.0) && (a.1 == b.1)
same_skew _ _ = false

abbrev pub same_low : Bool → Bool → Bool
same_low a b = if a then b else not b

abbrev pub same_clock : ClockSpec → ClockSpec → Bool
same_clock a b = same_spans a.spans b.spans && same_skew a.skew b.skew && same_low a.low b.low

abbrev pub same_assertion : AssertSpec → AssertSpec → Bool
same_assertion Unasserted Unasserted = true
same_assertion (Precision a) (Precision b) = same_clock a b
same_assertion (Clock a) (Clock b) = same_clock a b
same_assertion (Stable a) (Stable b) = same_spans a b
same_assertion _ _ = false
