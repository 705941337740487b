-- Assertions in units of one tick say what they said, and a clock that is moved is the ideal one, later.
use Rattle.std.proofs.Common.{◌≡◌, ℕ, ◌+◌, ◌-◌, ◌*◌, ◌/◌, ◌%◌, ◌≤◌, ◌<◌, ◌⊎◌, inl, inr, Bool, true, not, ◌&&◌, ◌||◌, nat_lt, nat_le, List, [], ◌∷◌, refl, sym, ap, ◌∙◌, arith, lt-ltb, le-ltb, if◌then◌else◌}
use Rattle.std.specs.List.{AllByRecursion, list_any}
use Rattle.std.proofs.lemmas.Bool.{and_from, and_parts, cases_lt, le-leb, lt-leb, leb-true, ltb-true, or_cases, or_left, or_right}
use Rattle.std.proofs.lemmas.Bool.Decides.{same_from_decides}
use Rattle.std.proofs.lemmas.Nat.{mul-le}
use Rattle.std.proofs.Math.Nat.{div-lt_iff_lt-mul, div-one, le-div_iff_mul-le}
use Rattle.scald_base.specs.Clock.{back, ideal}
use Rattle.scald_base.specs.Quiet.{quiet, quiet_inside}
use Rattle.scald_base.specs.Span.{SpanFits, begin_tick, end_tick, holds_unit}
use Rattle.scald_base.specs.Time.{Bounds, Header, period}
use Rattle.scald_base.specs.declared.assertion.ClockSpec.{ClockSpec}
use Rattle.scald_base.specs.declared.assertion.Span.{Span}
use Rattle.scald_base.proofs.Back.{back_sub, mod_small, period_later}
use Rattle.narrowing.specs.Narrowed.{fine_clock, fine_header, fine_span, fine_spans, lag, moved_clock, moved_span, moved_spans}

-- functions that agree everywhere are one
pub same_function : {A B : Type 0} (f g : A → B) → ((x : A) → f x ≡ g x) → f ≡ g
same_function f g same = λ i x. same x i

pub fine_period : (h : Header) → period (fine_header h) ≡ period h
fine_period h = omega arith

-- ---- tests of numbers

same_test : (a b d e : ℕ) → (a < b → d < e) → (b ≤ a → e ≤ d) → nat_lt a b ≡ nat_lt d e
same_test a b d e there back = elim (cases_lt a b) [
  | inl below ↦ lt-ltb a b below ∙ sym (lt-ltb d e (there below))
  | inr above ↦ le-ltb a b above ∙ sym (le-ltb d e (back above))
]

same_le : (a b d e : ℕ) → (a ≤ b → d ≤ e) → (b < a → e < d) → nat_le a b ≡ nat_le d e
same_le a b d e there back = elim (cases_lt b a) [
  | inl below ↦ lt-leb a b below ∙ sym (lt-leb d e (back below))
  | inr above ↦ le-leb a b above ∙ sym (le-leb d e (there above))
]

-- products by one factor are in the order of the others
same_order : (k a b : ℕ) → 0 < k → nat_lt (a * k) (b * k) ≡ nat_lt a b
same_order k a b some = elim (cases_lt a b) [
  | inl below ↦
      let more : (a + 1) * k ≤ b * k = mul-le (a + 1) k b k (omega arith) (omega arith) in
      lt-ltb (a * k) (b * k) (omega (arith, more)) ∙ sym (lt-ltb a b below)
  | inr above ↦
      let more : b * k ≤ a * k = mul-le b k a k above (omega arith) in
      le-ltb (a * k) (b * k) more ∙ sym (le-ltb a b above)
]

-- a tick is before the end of so many units exactly if its unit is before that unit
before_unit : (k t n : ℕ) → 0 < k → nat_lt (t / 1) (n * k) ≡ nat_lt (t / k) n
before_unit k t n some =
    ap (λ (m : ℕ). nat_lt m (n * k)) (div-one t)
    ∙ same_test t (n * k) (t / k) n ((div-lt_iff_lt-mul some).1) ((le-div_iff_mul-le some).1)

from_unit : (k t n : ℕ) → 0 < k → nat_le (n * k) (t / 1) ≡ nat_le n (t / k)
from_unit k t n some =
    ap (λ (m : ℕ). nat_le (n * k) m) (div-one t)
    ∙ same_le (n * k) t n (t / k) ((le-div_iff_mul-le some).1) ((div-lt_iff_lt-mul some).1)

-- ---- ideal clocks

-- whether a number is in an interval, by three tests
abbrev in_span : Bool → Bool → Bool → Bool
in_span ordered from below = if ordered then from && below else from || below

holds_fine : (h : Header) (s : Span) (t : ℕ) → 0 < h.ticks →
    holds_unit (fine_span h s) (t / 1) ≡ holds_unit s (t / h.ticks)
holds_fine h s t some =
    let k = h.ticks in
    ap (λ (b : Bool). in_span b (nat_le (s.lo * k) (t / 1)) (nat_lt (t / 1) (s.hi * k))) (same_order k s.lo s.hi some)
    ∙ ap (λ (b : Bool). in_span (nat_lt s.lo s.hi) b (nat_lt (t / 1) (s.hi * k))) (from_unit k t s.lo some)
    ∙ ap (λ (b : Bool). in_span (nat_lt s.lo s.hi) (nat_le s.lo (t / k)) b) (before_unit k t s.hi some)

any_fine : (h : Header) (spans : List Span) (t : ℕ) → 0 < h.ticks →
    list_any (λ (s : Span). holds_unit s (t / 1)) (fine_spans h spans)
    ≡ list_any (λ (s : Span). holds_unit s (t / h.ticks)) spans
any_fine h [] t some = refl
any_fine h (s ∷ ss) t some =
    ap (λ (b : Bool). b || list_any (λ (s : Span). holds_unit s (t / 1)) (fine_spans h ss)) (holds_fine h s t some)
    ∙ ap (λ (b : Bool). holds_unit s (t / h.ticks) || b) (any_fine h ss t some)

-- complemented, if the clock is
abbrev shown : Bool → Bool → Bool
shown low inside = if low then not inside else inside

pub ideal_fine : (h : Header) (clock : ClockSpec) (t : ℕ) → 0 < h.ticks →
    ideal (fine_clock h clock) (fine_header h) t ≡ ideal clock h t
ideal_fine h clock t some = ap (shown clock.low) (any_fine h clock.spans t some)

-- ---- quiet slots

-- whether a slot is inside an interval of ticks, in this period or the next
abbrev inside : ℕ → ℕ → ℕ → ℕ → Bool
inside begin end p slot = (nat_lt begin slot && nat_lt slot end) || (nat_lt begin (slot + p) && nat_lt (slot + p) end)

begin_fine : (h : Header) (s : Span) → begin_tick (fine_header h) (fine_span h s) ≡ begin_tick h s
begin_fine h s = omega arith

end_fine : (h : Header) (s : Span) → 0 < h.ticks → end_tick (fine_header h) (fine_span h s) ≡ end_tick h s
end_fine h s some =
    let k = h.ticks in
    let one : s.hi * k * 1 ≡ s.hi * k = omega arith in
    ap (λ (b : Bool). if b then s.hi * k * 1 else s.hi * k * 1 + period (fine_header h)) (same_order k s.lo s.hi some)
    ∙ ap (λ (n : ℕ). if nat_lt s.lo s.hi then n else n + period (fine_header h)) one
    ∙ ap (λ (p : ℕ). if nat_lt s.lo s.hi then s.hi * k else s.hi * k + p) (fine_period h)

inside_fine : (h : Header) (slot : ℕ) (s : Span) → 0 < h.ticks →
    quiet_inside (fine_header h) slot (fine_span h s) ≡ quiet_inside h slot s
inside_fine h slot s some =
    ap (λ (n : ℕ). inside n (end_tick (fine_header h) (fine_span h s)) (period (fine_header h)) slot) (begin_fine h s)
    ∙ ap (λ (n : ℕ). inside (begin_tick h s) n (period (fine_header h)) slot) (end_fine h s some)
    ∙ ap (λ (p : ℕ). inside (begin_tick h s) (end_tick h s) p slot) (fine_period h)

any_inside : (h : Header) (slot : ℕ) (spans : List Span) → 0 < h.ticks →
    list_any (quiet_inside (fine_header h) slot) (fine_spans h spans) ≡ list_any (quiet_inside h slot) spans
any_inside h slot [] some = refl
any_inside h slot (s ∷ ss) some =
    ap (λ (b : Bool). b || list_any (quiet_inside (fine_header h) slot) (fine_spans h ss)) (inside_fine h slot s some)
    ∙ ap (λ (b : Bool). quiet_inside h slot s || b) (any_inside h slot ss some)

pub quiet_fine : (h : Header) (spans : List Span) (slot : ℕ) → 0 < h.ticks →
    quiet (fine_spans h spans) (fine_header h) slot ≡ quiet spans h slot
quiet_fine h [] slot some = refl
quiet_fine h (s ∷ ss) slot some = any_inside h slot (s ∷ ss) some

-- ---- intervals of ticks that are moved round the period

-- the test of an interval, and what it tells
abbrev arc : ℕ → ℕ → ℕ → Bool
arc a b u = in_span (nat_lt a b) (nat_le a u) (nat_lt u b)

abbrev InArc : ℕ → ℕ → ℕ → Type 0
InArc a b u = ((a < b) × ((a ≤ u) × (u < b))) ⊎ ((b ≤ a) × ((a ≤ u) ⊎ (u < b)))

arc_true : (a b u : ℕ) → arc a b u ≡ true → InArc a b u
arc_true a b u is = elim (cases_lt a b) [
  | inl below ↦
      let both = and_parts (nat_le a u) (nat_lt u b)
      (ap (λ (x : Bool). in_span x (nat_le a u) (nat_lt u b)) (sym (lt-ltb a b below)) ∙ is) in
      inl (below, (leb-true a u both.0, ltb-true u b both.1))
  | inr above ↦
      elim (or_cases (nat_le a u) (nat_lt u b)
      (ap (λ (x : Bool). in_span x (nat_le a u) (nat_lt u b)) (sym (le-ltb a b above)) ∙ is)) [
        | inl from ↦ inr (above, inl (leb-true a u from))
        | inr to ↦ inr (above, inr (ltb-true u b to))
      ]
]

arc_from : (a b u : ℕ) → InArc a b u → arc a b u ≡ true
arc_from a b u (inl w) =
    ap (λ (x : Bool). in_span x (nat_le a u) (nat_lt u b)) (lt-ltb a b w.0)
    ∙ and_from (nat_le a u) (nat_lt u b) (le-leb a u w.1.0) (lt-ltb u b w.1.1)
arc_from a b u (inr w) =
    ap (λ (x : Bool). in_span x (nat_le a u) (nat_lt u b)) (le-ltb a b w.0)
    ∙ elim w.1 [
      | inl from ↦ or_left (nat_le a u) (nat_lt u b) (le-leb a u from)
      | inr to ↦ or_right (nat_le a u) (nat_lt u b) (lt-ltb u b to)
    ]

-- a tick of a period, so many later
abbrev Wraps : ℕ → ℕ → ℕ → ℕ → Type 0
Wraps p x m y = ((x + m < p) × (y ≡ x + m)) ⊎ ((p ≤ x + m) × (y + p ≡ x + m))

second_period : (p t : ℕ) → p ≤ t → t < 2 * p → t % p ≡ t - p
second_period p t from within =
    let is : t ≡ t - p + p = omega arith in
    ap (λ (n : ℕ). n % p) is ∙ period_later p (t - p) ∙ mod_small (t - p) p (omega arith)

wraps : (p x m : ℕ) → x ≤ p → m < p → Wraps p x m ((x + m) % p)
wraps p x m within below = elim (cases_lt (x + m) p) [
  | inl small ↦ inl (small, mod_small (x + m) p small)
  | inr great ↦
      let one : (x + m) % p ≡ x + m - p = second_period p (x + m) great (omega arith) in
      inr (great, omega (arith, one))
]

-- and so many earlier
abbrev Behind : ℕ → ℕ → ℕ → ℕ → Type 0
Behind p t m u = ((m ≤ t) × (u + m ≡ t)) ⊎ ((t < m) × (u + m ≡ t + p))

behind : (p t m : ℕ) → t < p → m < p → Behind p t m (back p t m)
behind p t m in_period below =
    let some : 0 < p = omega arith in
    let own : m % p ≡ m = mod_small m p below in
    let is : back p t m ≡ (t + (p - m)) % p =
    sym (back_sub p t m some) ∙ ap (λ (n : ℕ). (t + (p - n)) % p) own in
    elim (cases_lt t m) [
      | inl early ↦
          let small : (t + (p - m)) % p ≡ t + (p - m) = mod_small (t + (p - m)) p (omega arith) in
          inr (early, omega (arith, is, small))
      | inr late ↦
          let great : (t + (p - m)) % p ≡ t + (p - m) - p = second_period p (t + (p - m)) (omega arith) (omega arith) in
          inl (late, omega (arith, is, great))
    ]

module _ (p a b m t u a2 b2 : ℕ) (in_period : t < p) (by : m < p) (begins : a < p) (ends : b ≤ p)
    (first : Wraps p a m a2) (last : Wraps p b m b2) (earlier : Behind p t m u) where
  moved_there : InArc a b u → InArc a2 b2 t
  moved_there is = elim (cases_lt a2 b2) [
    | inl below ↦ inl (below, (omega arith, omega arith))
    | inr above ↦ inr (above, elim (cases_lt t a2) [ inl sooner ↦ inr (omega arith) | inr later ↦ inl later ])
  ]

  moved_back : InArc a2 b2 t → InArc a b u
  moved_back is = elim (cases_lt a b) [
    | inl below ↦ inl (below, (omega arith, omega arith))
    | inr above ↦ inr (above, elim (cases_lt u a) [ inl sooner ↦ inr (omega arith) | inr later ↦ inl later ])
  ]

  same_arc : arc a2 b2 t ≡ arc a b u
  same_arc =
      same_from_decides {P = InArc a b u} (arc a2 b2 t) (arc a b u)
      (λ e. moved_back (arc_true a2 b2 t e), λ w. arc_from a2 b2 t (moved_there w))
      (arc_true a b u, arc_from a b u)

-- ---- a clock that is moved

-- an interval of units is one of ticks
units_arc : (h : Header) (s : Span) (u : ℕ) → 0 < h.ticks →
    arc (s.lo * h.ticks) (s.hi * h.ticks) u ≡ holds_unit s (u / h.ticks)
units_arc h s u some =
    sym (ap (λ (n : ℕ). arc (s.lo * h.ticks) (s.hi * h.ticks) n) (div-one u)) ∙ holds_fine h s u some

holds_moved : (h : Header) (s : Span) (m t : ℕ) → 0 < h.ticks → SpanFits h.units s → t < period h → m < period h →
    holds_unit (moved_span h m s) (t / 1) ≡ holds_unit s (back (period h) t m / h.ticks)
holds_moved h s m t some fits in_period by =
    let k = h.ticks in
    let begins = fits.begins in
    let ends = fits.ends in
    let first : (s.lo + 1) * k ≤ period h = mul-le (s.lo + 1) k h.units k (omega arith) (omega arith) in
    let last : s.hi * k ≤ period h = mul-le s.hi k h.units k ends (omega arith) in
    ap (λ (n : ℕ). arc ((s.lo * k + m) % period h) ((s.hi * k + m) % period h) n) (div-one t)
    ∙ same_arc (period h) (s.lo * k) (s.hi * k) m t (back (period h) t m) ((s.lo * k + m) % period h)
    ((s.hi * k + m) % period h) in_period by (omega (arith, first)) last
    (wraps (period h) (s.lo * k) m (omega (arith, first)) by) (wraps (period h) (s.hi * k) m last by)
    (behind (period h) t m in_period by)
    ∙ units_arc h s (back (period h) t m) some

any_moved : (h : Header) (spans : List Span) (m t : ℕ) → 0 < h.ticks → AllByRecursion (SpanFits h.units) spans →
    t < period h → m < period h →
    list_any (λ (s : Span). holds_unit s (t / 1)) (moved_spans h m spans)
    ≡ list_any (λ (s : Span). holds_unit s (back (period h) t m / h.ticks)) spans
any_moved h [] m t some fit in_period by = refl
any_moved h (s ∷ ss) m t some fit in_period by =
    ap (λ (b : Bool). b || list_any (λ (s : Span). holds_unit s (t / 1)) (moved_spans h m ss))
    (holds_moved h s m t some fit.0 in_period by)
    ∙ ap (λ (b : Bool). holds_unit s (back (period h) t m / h.ticks) || b) (any_moved h ss m t some fit.1 in_period by)

pub ideal_moved : (h : Header) (clock : ClockSpec) (b : Bounds) (t : ℕ) → 0 < h.ticks →
    AllByRecursion (SpanFits h.units) clock.spans → t < period h → lag h clock b.min < period h →
    ideal (moved_clock h clock b) (fine_header h) t ≡ ideal clock h (back (period h) t (lag h clock b.min))
ideal_moved h clock b t some fit in_period by =
    ap (shown clock.low) (any_moved h clock.spans (lag h clock b.min) t some fit in_period by)
