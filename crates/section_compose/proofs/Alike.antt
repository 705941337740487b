-- What the tests of assertions and of clocks say: what is written alike is the same.
use Rattle.std.proofs.Common.{◌≡◌, ℕ, Bool, true, false, ◌&&◌, List, [], ◌∷◌, refl, sym, ap, ◌∙◌, subst, Option, Some, None}
use Rattle.std.specs.Prelude.{◌==◌, ◌≢◌, MatchBool}
use Rattle.std.proofs.lemmas.Bool.{and_from, and_parts, eq-eqb, eqb-true}
use Rattle.scald_base.specs.Time.{Header}
use Rattle.scald_base.specs.declared.assertion.Span.{Span}
use Rattle.scald_base.specs.declared.assertion.ClockSpec.{ClockSpec}
use Rattle.scald_base.specs.declared.assertion.AssertSpec.{AssertSpec}
use Rattle.scald_base.specs.declared.assertion.AssertSpec.TheVariants.{None as Unasserted, Precision, Clock, Stable}
use Rattle.section_compose.specs.Same.{same_assertion, same_bit, same_clock, same_clocks, same_pair, same_skew, same_span, same_spans}
use Rattle.section_compose.specs.Joined.{SameClocks}
use Rattle.section_compose.proofs.Lists.{same_truth}

pub bit_is : (a b : Bool) → same_bit a b ≡ true → a ≡ b
bit_is true true e = refl
bit_is true false e = cc
bit_is false true e = cc
bit_is false false e = refl

pub pair_is : (a b : ℕ × ℕ) → same_pair a b ≡ true → a ≡ b
pair_is a b e =
    let both = and_parts (a.0 == b.0) (a.1 == b.1) e in
    let first : a.0 ≡ b.0 = eqb-true a.0 b.0 both.0 in
    let second : a.1 ≡ b.1 = eqb-true a.1 b.1 both.1 in
    λ k. (first k, second k)

pub skew_is : (a b : Option (ℕ × ℕ)) → same_skew a b ≡ true → a ≡ b
skew_is None None e = refl
skew_is None (Some b) e = cc
skew_is (Some a) None e = cc
skew_is (Some a) (Some b) e = ap Some (pair_is a b e)

pub span_is : (a b : Span) → same_span a b ≡ true → a ≡ b
span_is a b e =
    let both = and_parts (a.lo == b.lo) (a.hi == b.hi) e in
    let lo : a.lo ≡ b.lo = eqb-true a.lo b.lo both.0 in
    let hi : a.hi ≡ b.hi = eqb-true a.hi b.hi both.1 in
    λ k. record { lo = lo k; hi = hi k }

pub spans_are : (a b : List Span) → same_spans a b ≡ true → a ≡ b
spans_are [] [] e = refl
spans_are [] (b ∷ others) e = cc
spans_are (a ∷ rest) [] e = cc
spans_are (a ∷ rest) (b ∷ others) e =
    let both = and_parts (same_span a b) (same_spans rest others) e in
    let head : a ≡ b = span_is a b both.0 in
    let tail : rest ≡ others = spans_are rest others both.1 in
    λ k. head k ∷ tail k

pub clock_is : (a b : ClockSpec) → same_clock a b ≡ true → a ≡ b
clock_is a b e =
    let both = and_parts (same_spans a.spans b.spans) (same_skew a.skew b.skew && same_bit a.low b.low) e in
    let rest = and_parts (same_skew a.skew b.skew) (same_bit a.low b.low) both.1 in
    let spans : a.spans ≡ b.spans = spans_are a.spans b.spans both.0 in
    let skew : a.skew ≡ b.skew = skew_is a.skew b.skew rest.0 in
    let low : a.low ≡ b.low = bit_is a.low b.low rest.1 in
    λ k. record { spans = spans k; skew = skew k; low = low k }

pub assertion_is : (a b : AssertSpec) → same_assertion a b ≡ true → a ≡ b
assertion_is Unasserted Unasserted e = refl
assertion_is Unasserted (Precision b) e = cc
assertion_is Unasserted (Clock b) e = cc
assertion_is Unasserted (Stable b) e = cc
assertion_is (Precision a) (Precision b) e = ap Precision (clock_is a b e)
assertion_is (Precision a) Unasserted e = cc
assertion_is (Precision a) (Clock b) e = cc
assertion_is (Precision a) (Stable b) e = cc
assertion_is (Clock a) (Clock b) e = ap Clock (clock_is a b e)
assertion_is (Clock a) Unasserted e = cc
assertion_is (Clock a) (Precision b) e = cc
assertion_is (Clock a) (Stable b) e = cc
assertion_is (Stable a) (Stable b) e = ap Stable (spans_are a b e)
assertion_is (Stable a) Unasserted e = cc
assertion_is (Stable a) (Precision b) e = cc
assertion_is (Stable a) (Clock b) e = cc

pub clocks_are : (a b : Header) → same_clocks a b ≡ true → SameClocks a b
clocks_are a b e =
    let one = and_parts (a.units == b.units) ((a.ticks == b.ticks) && (same_pair a.pskew b.pskew && same_pair a.cskew b.cskew)) e in
    let two = and_parts (a.ticks == b.ticks) (same_pair a.pskew b.pskew && same_pair a.cskew b.cskew) one.1 in
    let three = and_parts (same_pair a.pskew b.pskew) (same_pair a.cskew b.cskew) two.1 in
    record {
      units = eqb-true a.units b.units one.0;
      ticks = eqb-true a.ticks b.ticks two.0;
      pskew = pair_is a.pskew b.pskew three.0;
      cskew = pair_is a.cskew b.cskew three.1;
    }

pub clocks_back : (a b : Header) → SameClocks a b → SameClocks b a
clocks_back a b s = record { units = sym s.units; ticks = sym s.ticks; pskew = sym s.pskew; cskew = sym s.cskew }

pub clocks_on : (a b c : Header) → SameClocks a b → SameClocks b c → SameClocks a c
clocks_on a b c s t = record {
  units = s.units ∙ t.units;
  ticks = s.ticks ∙ t.ticks;
  pskew = s.pskew ∙ t.pskew;
  cskew = s.cskew ∙ t.cskew;
}

-- ---- and the other way round: what is the same is written alike

bit_alike : (a : Bool) → same_bit a a ≡ true
bit_alike true = refl
bit_alike false = refl

pair_alike : (a : ℕ × ℕ) → same_pair a a ≡ true
pair_alike a = and_from (a.0 == a.0) (a.1 == a.1) (eq-eqb a.0 a.0 refl) (eq-eqb a.1 a.1 refl)

skew_alike : (a : Option (ℕ × ℕ)) → same_skew a a ≡ true
skew_alike None = refl
skew_alike (Some a) = pair_alike a

spans_alike : (a : List Span) → same_spans a a ≡ true
spans_alike [] = refl
spans_alike (a ∷ rest) =
    and_from (same_span a a) (same_spans rest rest)
    (and_from (a.lo == a.lo) (a.hi == a.hi) (eq-eqb a.lo a.lo refl) (eq-eqb a.hi a.hi refl)) (spans_alike rest)

clock_alike : (a : ClockSpec) → same_clock a a ≡ true
clock_alike a =
    and_from (same_spans a.spans a.spans) (same_skew a.skew a.skew && same_bit a.low a.low) (spans_alike a.spans)
    (and_from (same_skew a.skew a.skew) (same_bit a.low a.low) (skew_alike a.skew) (bit_alike a.low))

pub assertion_alike : (a : AssertSpec) → same_assertion a a ≡ true
assertion_alike Unasserted = refl
assertion_alike (Precision a) = clock_alike a
assertion_alike (Clock a) = clock_alike a
assertion_alike (Stable a) = spans_alike a

-- a test of assertions that is true if they are the same tells the same
pub tells_same : (a b : AssertSpec) (test : Bool) → MatchBool test (a ≡ b) (a ≢ b) → test ≡ same_assertion a b
tells_same a b true is = sym (subst (λ (s : AssertSpec). same_assertion a s ≡ true) is (assertion_alike a))
tells_same a b false differ = same_truth false (same_assertion a b) (λ e. absurd (cc)) (λ alike. absurd (differ (assertion_is a b alike)))
