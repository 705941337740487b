-- A clock whose edges were drawn each by itself keeps its assertion.
use Rattle.std.proofs.Common.{◌≡◌, ℕ, zero, suc, ◌+◌, ◌-◌, ◌<◌, ◌≤◌, Bool, true, false, not, ◌&&◌, ◌||◌, cond, refl, ap, subst, sym, ◌∙◌, arith}
use Rattle.scald_base.specs.Time.{Header, period}
use Rattle.scald_base.specs.Signal.{Signal}
use Rattle.scald_base.specs.Clock.{SharesSlot, back, ideal}
use Rattle.scald_base.specs.Fitting.{skew_of}
use Rattle.scald_base.specs.declared.assertion.ClockSpec.{ClockSpec}
use Rattle.scald_base.proofs.Back.{back_later, back_zero, mod_small}
use Rattle.pin_waves.specs.Meets.{MeetsClock}
use Rattle.trace_sim.specs.Input.{is_last, is_near, moved, slot_of}
use Rattle.trace_sim.proofs.Bits.{near_fall, near_none, near_rise}
use Rattle.trace_sim.proofs.Regions.{Near, at_end, at_last, away, near_is, near_passes, not_both}

-- ---- the bit at a tick, by its slot

by_rise : (c : ClockSpec) (h : Header) (skew : ℕ × ℕ) (free : Signal) (t : ℕ) → 1 ≤ t → is_near c h skew true (slot_of h t) ≡ true →
    moved c h skew free t ≡ (moved c h skew free (t - 1) || (is_last c h skew true (slot_of h t) || free t))
by_rise c h skew free t some near =
    sym (near_rise c h skew free t (slot_of h t) (moved c h skew free (t - 1))
    (moved c h skew free (t - 1) || (is_last c h skew true (slot_of h t) || free t)) some refl refl near refl)

by_fall : (c : ClockSpec) (h : Header) (skew : ℕ × ℕ) (free : Signal) (t : ℕ) → 1 ≤ t → is_near c h skew true (slot_of h t) ≡ false →
    is_near c h skew false (slot_of h t) ≡ true →
    moved c h skew free t ≡ (moved c h skew free (t - 1) && (not (is_last c h skew false (slot_of h t)) && free t))
by_fall c h skew free t some apart near =
    sym (near_fall c h skew free t (slot_of h t) (moved c h skew free (t - 1))
    (moved c h skew free (t - 1) && (not (is_last c h skew false (slot_of h t)) && free t)) some refl refl apart near refl)

by_none : (c : ClockSpec) (h : Header) (skew : ℕ × ℕ) (free : Signal) (t : ℕ) → 1 ≤ t → is_near c h skew true (slot_of h t) ≡ false →
    is_near c h skew false (slot_of h t) ≡ false → moved c h skew free t ≡ ideal c h (slot_of h t)
by_none c h skew free t some apart off =
    sym (near_none c h skew free t (slot_of h t) (ideal c h (slot_of h t)) some refl apart off refl)

-- ---- before a slot that is of no region, the clock is the ideal one

or_true : (a b : Bool) → (a || (true || b)) ≡ true
or_true true b = refl
or_true false b = refl

and_false : (a b : Bool) → (a && (not true && b)) ≡ false
and_false true b = refl
and_false false b = refl

-- a slot that is of a region is its last, if the next is of none
not_inside : (c : ClockSpec) (h : Header) (skew : ℕ × ℕ) (to : Bool) (t : ℕ) → 0 < period h → ¬ Near c h skew to (t + 1) →
    (is_near c h skew to (back (period h) t 0) && not (is_last c h skew to (back (period h) t 0))) ≡ false
not_inside c h skew to t pos none = go (is_near c h skew to (back (period h) t 0)) refl
  where
    last : Bool
    last = is_last c h skew to (back (period h) t 0)

    go : (b : Bool) → is_near c h skew to (back (period h) t 0) ≡ b → (b && not last) ≡ false
    go true near = ap not (at_last c h skew to t pos (near_is c h skew to t pos near) none)
    go false off = refl

slot_zero : (h : Header) → 0 < period h → back (period h) 0 0 ≡ 0
slot_zero h pos = back_zero (period h) 0 ∙ mod_small 0 (period h) pos

before_first : (c : ClockSpec) (h : Header) (skew : ℕ × ℕ) (free : Signal) → 0 < period h →
    ¬ Near c h skew true 1 → ¬ Near c h skew false 1 → moved c h skew free 0 ≡ ideal c h (back (period h) 0 0)
before_first c h skew free pos no_rise no_fall =
    let at_zero = λ (to : Bool) (none : ¬ Near c h skew to 1).
    subst (λ (slot : ℕ). (is_near c h skew to slot && not (is_last c h skew to slot)) ≡ false) (slot_zero h pos)
    (not_inside c h skew to 0 pos none) in
    ap (λ (b : Bool). cond (b || (is_near c h skew false 0 && not (is_last c h skew false 0))) (free 0) (ideal c h 0)) (at_zero true no_rise)
    ∙ ap (λ (b : Bool). cond (false || b) (free 0) (ideal c h 0)) (at_zero false no_fall)
    ∙ ap (ideal c h) (sym (slot_zero h pos))

before_later : (c : ClockSpec) (h : Header) (skew : ℕ × ℕ) (free : Signal) (t : ℕ) → 1 ≤ t → 0 < period h → ¬ SharesSlot c h skew.0 skew.1 →
    ¬ Near c h skew true (t + 1) → ¬ Near c h skew false (t + 1) → moved c h skew free t ≡ ideal c h (back (period h) t 0)
before_later c h skew free t some pos apart no_rise no_fall = rises (is_near c h skew true (slot_of h t)) refl
  where
    falls : (b : Bool) → is_near c h skew false (slot_of h t) ≡ b → is_near c h skew true (slot_of h t) ≡ false →
        moved c h skew free t ≡ ideal c h (back (period h) t 0)
    falls true near off =
        let region = near_is c h skew false t pos near in
        by_fall c h skew free t some off near
        ∙ ap (λ (b : Bool). moved c h skew free (t - 1) && (not b && free t)) (at_last c h skew false t pos region no_fall)
        ∙ and_false (moved c h skew free (t - 1)) (free t)
        ∙ sym (at_end c h skew false t pos apart region no_fall)
    falls false away off = by_none c h skew free t some off away

    rises : (b : Bool) → is_near c h skew true (slot_of h t) ≡ b → moved c h skew free t ≡ ideal c h (back (period h) t 0)
    rises true near =
        let region = near_is c h skew true t pos near in
        by_rise c h skew free t some near
        ∙ ap (λ (b : Bool). moved c h skew free (t - 1) || (b || free t)) (at_last c h skew true t pos region no_rise)
        ∙ or_true (moved c h skew free (t - 1)) (free t)
        ∙ sym (at_end c h skew true t pos apart region no_rise)
    rises false off = falls (is_near c h skew false (slot_of h t)) refl off

before_any : (c : ClockSpec) (h : Header) (skew : ℕ × ℕ) (free : Signal) (t : ℕ) → 0 < period h → ¬ SharesSlot c h skew.0 skew.1 →
    ¬ Near c h skew true (t + 1) → ¬ Near c h skew false (t + 1) → moved c h skew free t ≡ ideal c h (back (period h) t 0)
before_any c h skew free zero pos apart no_rise no_fall = before_first c h skew free pos no_rise no_fall
before_any c h skew free (suc t) pos apart no_rise no_fall =
    before_later c h skew free (suc t) (omega arith) pos apart no_rise no_fall

-- ---- the assertion

pub keeps_clock : (c : ClockSpec) (h : Header) (n : ℕ) (free : Signal) → 0 < period h →
    ¬ SharesSlot c h (skew_of c h.cskew).0 (skew_of c h.cskew).1 → MeetsClock h c n (moved c h (skew_of c h.cskew) free)
keeps_clock c h n free pos apart = record {
  rises = λ t some below near high.
      by_rise c h skew free t some (near_passes c h skew true t near)
      ∙ ap (λ (b : Bool). b || (is_last c h skew true (slot_of h t) || free t)) high;
  falls = λ t some below near low.
      by_fall c h skew free t some (away c h skew true t pos (λ rise. not_both c h skew t apart rise near)) (near_passes c h skew false t near)
      ∙ ap (λ (b : Bool). b && (not (is_last c h skew false (slot_of h t)) && free t)) low;
  before = λ t some below no_rise no_fall.
      let next : t - 1 + 1 ≡ t = omega arith in
      before_any c h skew free (t - 1) pos apart
      (λ near. no_rise (subst (Near c h skew true) next near)) (λ near. no_fall (subst (Near c h skew false) next near))
      ∙ ap (ideal c h) (sym (back_later (period h) (t - 1) 1 0 pos) ∙ ap (λ (z : ℕ). back (period h) z (1 + 0)) next);
  after = λ t some below no_rise no_fall.
      by_none c h skew free t some (away c h skew true t pos no_rise) (away c h skew false t pos no_fall);
}
  where
    skew : ℕ × ℕ
    skew = skew_of c h.cskew
