-- Assertions that are written alike are equal.
use Rattle.std.proofs.Common.{◌≡◌, ℕ, Bool, true, false, ◌&&◌, List, [], ◌∷◌, Option, Some, None, refl, ap}
use Rattle.std.specs.Prelude.{◌==◌}
use Rattle.std.proofs.lemmas.Bool.{and_parts, eqb-true, eq-eqb}
use Rattle.macro_expander.proofs.Lists.{two}
use Rattle.scald_base.specs.declared.assertion.Span.{Span}
use Rattle.scald_base.specs.declared.assertion.ClockSpec.{ClockSpec}
use Rattle.scald_base.specs.declared.assertion.AssertSpec.{AssertSpec}
use Rattle.scald_base.specs.declared.assertion.AssertSpec.TheVariants.{None as Unasserted, Precision, Clock, Stable}
use Rattle.macro_expander.specs.Assertions.{same_span, same_spans, same_skew, same_low, same_clock, same_assertion}

-- alike, then equal
span_equal : (a b : Span) → same_span a b ≡ true → a ≡ b
span_equal a b h =
    let p = and_parts (a.lo == b.lo) (a.hi == b.hi) h in
    two (λ (lo hi : ℕ). let s : Span = record { lo = lo; hi = hi } in s) (eqb-true a.lo b.lo p.0) (eqb-true a.hi b.hi p.1)

spans_equal : (a b : List Span) → same_spans a b ≡ true → a ≡ b
spans_equal [] [] h = refl
spans_equal [] (b ∷ bs) h = absurd (cc)
spans_equal (a ∷ rest) [] h = absurd (cc)
spans_equal (a ∷ rest) (b ∷ bs) h =
    let p = and_parts (same_span a b) (same_spans rest bs) h in
    two (λ x xs. x ∷ xs) (span_equal a b p.0) (spans_equal rest bs p.1)

skew_equal : (a b : Option (ℕ × ℕ)) → same_skew a b ≡ true → a ≡ b
skew_equal None None h = refl
skew_equal None (Some b) h = absurd (cc)
skew_equal (Some a) None h = absurd (cc)
skew_equal (Some a) (Some b) h =
    let p = and_parts (a.0 == b.0) (a.1 == b.1) h in
    two (λ (x y : ℕ). let o : Option (ℕ × ℕ) = Some (x, y) in o) (eqb-true a.0 b.0 p.0) (eqb-true a.1 b.1 p.1)

low_equal : (a b : Bool) → same_low a b ≡ true → a ≡ b
low_equal true true h = refl
low_equal true false h = absurd (cc)
low_equal false true h = absurd (cc)
low_equal false false h = refl

clock_equal : (a b : ClockSpec) → same_clock a b ≡ true → a ≡ b
clock_equal a b h =
    let p = and_parts (same_spans a.spans b.spans && same_skew a.skew b.skew) (same_low a.low b.low) h in
    let q = and_parts (same_spans a.spans b.spans) (same_skew a.skew b.skew) p.0 in
    two (λ (low : Bool) (c : ClockSpec). record c { low = low }) (low_equal a.low b.low p.1)
    (two (λ spans skew. let c : ClockSpec = record { spans = spans; skew = skew; low = b.low } in c) (spans_equal a.spans b.spans q.0) (skew_equal a.skew b.skew q.1))

pub assertion_equal : (a b : AssertSpec) → same_assertion a b ≡ true → a ≡ b
assertion_equal Unasserted Unasserted h = refl
assertion_equal Unasserted (Precision b) h = absurd (cc)
assertion_equal Unasserted (Clock b) h = absurd (cc)
assertion_equal Unasserted (Stable b) h = absurd (cc)
assertion_equal (Precision a) Unasserted h = absurd (cc)
assertion_equal (Precision a) (Precision b) h = ap Precision (clock_equal a b h)
assertion_equal (Precision a) (Clock b) h = absurd (cc)
assertion_equal (Precision a) (Stable b) h = absurd (cc)
assertion_equal (Clock a) Unasserted h = absurd (cc)
assertion_equal (Clock a) (Precision b) h = absurd (cc)
assertion_equal (Clock a) (Clock b) h = ap Clock (clock_equal a b h)
assertion_equal (Clock a) (Stable b) h = absurd (cc)
assertion_equal (Stable a) Unasserted h = absurd (cc)
assertion_equal (Stable a) (Precision b) h = absurd (cc)
assertion_equal (Stable a) (Clock b) h = absurd (cc)
assertion_equal (Stable a) (Stable b) h = ap Stable (spans_equal a b h)

-- each is written as itself
spans_self : (a : List Span) → same_spans a a ≡ true
spans_self [] = refl
spans_self (a ∷ rest) = rw (eq-eqb a.lo a.lo refl, eq-eqb a.hi a.hi refl, spans_self rest) refl

skew_self : (a : Option (ℕ × ℕ)) → same_skew a a ≡ true
skew_self None = refl
skew_self (Some a) = rw (eq-eqb a.0 a.0 refl, eq-eqb a.1 a.1 refl) refl

low_self : (a : Bool) → same_low a a ≡ true
low_self true = refl
low_self false = refl

clock_self : (a : ClockSpec) → same_clock a a ≡ true
clock_self a = rw (spans_self a.spans, skew_self a.skew, low_self a.low) refl

pub assertion_self : (a : AssertSpec) → same_assertion a a ≡ true
assertion_self Unasserted = refl
assertion_self (Precision a) = clock_self a
assertion_self (Clock a) = clock_self a
assertion_self (Stable a) = spans_self a
