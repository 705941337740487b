-- Bits that go by the tick before, and searches among numbers.
use Rattle.std.proofs.Common.{◌≡◌, ℕ, zero, suc, ◌+◌, ◌-◌, ◌<◌, ◌≤◌, Bool, true, false, not, ◌&&◌, ◌||◌, cond, refl, ap, subst, sym, ◌∙◌, arith}
use Rattle.std.specs.List.{list_any, range_with_len}
use Rattle.scald_base.specs.Time.{Header}
use Rattle.scald_base.specs.Signal.{Signal}
use Rattle.scald_base.specs.Clock.{ideal}
use Rattle.scald_base.specs.declared.assertion.ClockSpec.{ClockSpec}
use Rattle.trace_sim.specs.Input.{is_last, is_near, moved, slot_of}

-- what a moved clock shows after tick 0, by the slot: near a rise, near a fall, and elsewhere
pub near_rise : (c : ClockSpec) (h : Header) (skew : ℕ × ℕ) (free : Signal) (t slot : ℕ) (before bit : Bool) → 1 ≤ t → slot ≡ slot_of h t →
    before ≡ moved c h skew free (t - 1) → is_near c h skew true slot ≡ true →
    bit ≡ (before || (is_last c h skew true slot || free t)) → bit ≡ moved c h skew free t
near_rise c h skew free zero slot before bit some at was near is = absurd (omega arith)
near_rise c h skew free (suc t) slot before bit some at was near is =
    let here : is_near c h skew true (slot_of h (suc t)) ≡ true = sym (ap (is_near c h skew true) at) ∙ near in
    let back : suc t - 1 ≡ t = omega arith in
    is ∙ ap (λ b. b || (is_last c h skew true slot || free (suc t))) (was ∙ ap (moved c h skew free) back)
    ∙ ap (λ s. moved c h skew free t || (is_last c h skew true s || free (suc t))) at
    ∙ sym (ap (λ b. cond b (moved c h skew free t || (is_last c h skew true (slot_of h (suc t)) || free (suc t)))
    (cond (is_near c h skew false (slot_of h (suc t))) (moved c h skew free t && (not (is_last c h skew false (slot_of h (suc t))) && free (suc t))) (ideal c h (slot_of h (suc t))))) here)

pub near_fall : (c : ClockSpec) (h : Header) (skew : ℕ × ℕ) (free : Signal) (t slot : ℕ) (before bit : Bool) → 1 ≤ t → slot ≡ slot_of h t →
    before ≡ moved c h skew free (t - 1) → is_near c h skew true slot ≡ false → is_near c h skew false slot ≡ true →
    bit ≡ (before && (not (is_last c h skew false slot) && free t)) → bit ≡ moved c h skew free t
near_fall c h skew free zero slot before bit some at was apart near is = absurd (omega arith)
near_fall c h skew free (suc t) slot before bit some at was apart near is =
    let there : is_near c h skew true (slot_of h (suc t)) ≡ false = sym (ap (is_near c h skew true) at) ∙ apart in
    let here : is_near c h skew false (slot_of h (suc t)) ≡ true = sym (ap (is_near c h skew false) at) ∙ near in
    let back : suc t - 1 ≡ t = omega arith in
    let rise = moved c h skew free t || (is_last c h skew true (slot_of h (suc t)) || free (suc t)) in
    let fall = moved c h skew free t && (not (is_last c h skew false (slot_of h (suc t))) && free (suc t)) in
    is ∙ ap (λ b. b && (not (is_last c h skew false slot) && free (suc t))) (was ∙ ap (moved c h skew free) back)
    ∙ ap (λ s. moved c h skew free t && (not (is_last c h skew false s) && free (suc t))) at
    ∙ sym (ap (λ b. cond b fall (ideal c h (slot_of h (suc t)))) here)
    ∙ sym (ap (λ b. cond b rise (cond (is_near c h skew false (slot_of h (suc t))) fall (ideal c h (slot_of h (suc t))))) there)

pub near_none : (c : ClockSpec) (h : Header) (skew : ℕ × ℕ) (free : Signal) (t slot : ℕ) (bit : Bool) → 1 ≤ t → slot ≡ slot_of h t →
    is_near c h skew true slot ≡ false → is_near c h skew false slot ≡ false → bit ≡ ideal c h slot → bit ≡ moved c h skew free t
near_none c h skew free zero slot bit some at apart away is = absurd (omega arith)
near_none c h skew free (suc t) slot bit some at apart away is =
    let there : is_near c h skew true (slot_of h (suc t)) ≡ false = sym (ap (is_near c h skew true) at) ∙ apart in
    let here : is_near c h skew false (slot_of h (suc t)) ≡ false = sym (ap (is_near c h skew false) at) ∙ away in
    let rise = moved c h skew free t || (is_last c h skew true (slot_of h (suc t)) || free (suc t)) in
    let fall = moved c h skew free t && (not (is_last c h skew false (slot_of h (suc t))) && free (suc t)) in
    is ∙ ap (ideal c h) at
    ∙ sym (ap (λ b. cond b fall (ideal c h (slot_of h (suc t)))) here)
    ∙ sym (ap (λ b. cond b rise (cond (is_near c h skew false (slot_of h (suc t))) fall (ideal c h (slot_of h (suc t))))) there)

pub none_of : (test : ℕ → Bool) (a n : ℕ) → ((k : ℕ) → k < n → test (a + k) ≡ false) → list_any test (range_with_len a n) ≡ false
none_of test a zero each = refl
none_of test a (suc n) each =
    let first : test a ≡ false = subst (λ m. test m ≡ false) (omega arith) (each 0 (omega arith)) in
    let rest = none_of test (a + 1) n (λ k below. subst (λ m. test m ≡ false) (omega arith) (each (k + 1) (omega arith))) in
    rw (first, rest) refl

pub some_of : (test : ℕ → Bool) (a n k : ℕ) → k < n → test (a + k) ≡ true → list_any test (range_with_len a n) ≡ true
some_of test a zero k below here = absurd (omega arith)
some_of test a (suc n) zero below here =
    let first : test a ≡ true = subst (λ m. test m ≡ true) (omega arith) here in rw first refl
some_of test a (suc n) (suc k) below here =
    by (test a) (some_of test (a + 1) n k (omega arith) (subst (λ m. test m ≡ true) (omega arith) here))
  where
    by : (b : Bool) → list_any test (range_with_len (a + 1) n) ≡ true → (b || list_any test (range_with_len (a + 1) n)) ≡ true
    by true rest = refl
    by false rest = rest
