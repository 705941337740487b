-- What is written alike: assertions, and the clocks of headers. Tests, since the rules are stated
-- by them.
use Rattle.std.specs.Prelude.{ℕ, ◌==◌, Bool, true, false, not, ◌&&◌, if◌then◌else◌, List, [], ◌∷◌, Option, Some, None}
use Rattle.scald_base.specs.Time.{Header}
use Rattle.scald_base.specs.declared.assertion.Span.{Span}
use Rattle.scald_base.specs.declared.assertion.ClockSpec.{ClockSpec}
use Rattle.scald_base.specs.declared.assertion.AssertSpec.{AssertSpec}
use Rattle.scald_base.specs.declared.assertion.AssertSpec.TheVariants.{None as Unasserted, Precision, Clock, Stable}

abbrev pub same_bit : Bool → Bool → Bool
same_bit a b = if a then b else not b

abbrev pub same_pair : ℕ × ℕ → ℕ × ℕ → Bool
same_pair a b = (a.0 == b.0) && (a.1 == b.1)

abbrev pub same_skew : Option (ℕ × ℕ) → Option (ℕ × ℕ) → Bool
same_skew None None = true
same_skew None (Some b) = false
same_skew (Some a) None = false
same_skew (Some a) (Some b) = same_pair a b

abbrev pub same_span : Span → Span → Bool
same_span a b = (a.lo == b.lo) && (a.hi == b.hi)

abbrev pub same_spans : List Span → List Span → Bool
same_spans [] [] = true
same_spans [] (b ∷ others) = false
same_spans (a ∷ rest) [] = false
same_spans (a ∷ rest) (b ∷ others) = same_span a b && same_spans rest others

abbrev pub same_clock : ClockSpec → ClockSpec → Bool
same_clock a b = same_spans a.spans b.spans && (same_skew a.skew b.skew && same_bit a.low b.low)

abbrev pub same_assertion : AssertSpec → AssertSpec → Bool
same_assertion Unasserted Unasserted = true
same_assertion (Precision a) (Precision b) = same_clock a b
same_assertion (Clock a) (Clock b) = same_clock a b
same_assertion (Stable a) (Stable b) = same_spans a b
same_assertion a b = false

-- The period, in units and ticks, and the skews of clocks; wires may differ.
abbrev pub same_clocks : Header → Header → Bool
same_clocks a b =
    (a.units == b.units) && ((a.ticks == b.ticks)
    && (same_pair a.pskew b.pskew && same_pair a.cskew b.cskew))
