-- The regions of a clock whose edges move each by itself: what the tests of the code say of them, and what the ideal
-- clock shows at their ends.
use Rattle.std.proofs.Common.{◌≡◌, ℕ, zero, suc, ◌+◌, ◌-◌, ◌<◌, ◌≤◌, Bool, true, false, not, ◌&&◌, ◌||◌, ◌⊎◌, inl, inr, refl, ap, subst, sym, ◌∙◌, arith}
use Rattle.std.specs.List.{list_any, range_with_len}
use Rattle.std.proofs.lemmas.Bool.{cases_order, false_from_ne_true}
use Rattle.scald_base.specs.Time.{Header, period}
use Rattle.scald_base.specs.Clock.{IsEdge, IsInRegion, SharesSlot, back, ideal}
use Rattle.scald_base.specs.declared.assertion.ClockSpec.{ClockSpec}
use Rattle.scald_base.proofs.Back.{back_back, back_later, back_lt, back_sooner}
use Rattle.trace_sim.specs.Input.{is_edge, is_last, is_near}
use Rattle.trace_sim.proofs.Bits.{some_of}

-- ---- edges by their test

rise_parts : (before after : Bool) → (not before && after) ≡ true → (before ≡ false) × (after ≡ true)
rise_parts before after steps = (grind arith, grind arith)

fall_parts : (before after : Bool) → (before && not after) ≡ true → (before ≡ true) × (after ≡ false)
fall_parts before after steps = (grind arith, grind arith)

edge_passes : (c : ClockSpec) (h : Header) (to : Bool) (slot : ℕ) → IsEdge c h to slot → is_edge c h to slot ≡ true
edge_passes c h true slot is = rw (is.before, is.after) refl
edge_passes c h false slot is = rw (is.before, is.after) refl

edge_is : (c : ClockSpec) (h : Header) (to : Bool) (slot : ℕ) → slot < period h → is_edge c h to slot ≡ true → IsEdge c h to slot
edge_is c h true slot within passes =
    let parts = rise_parts (ideal c h (back (period h) slot 1)) (ideal c h slot) passes in
    record { within = within; before = parts.0; after = parts.1 }
edge_is c h false slot within passes =
    let parts = fall_parts (ideal c h (back (period h) slot 1)) (ideal c h slot) passes in
    record { within = within; before = parts.0; after = parts.1 }

-- ---- regions by their test

-- the slot of tick t is of the region of an edge to this bit
abbrev pub Near : ClockSpec → Header → ℕ × ℕ → Bool → ℕ → Type 0
Near c h skew to t = (edge : ℕ) × IsInRegion c h skew.0 skew.1 to edge (back (period h) t 0)

record Passes (test : ℕ → Bool) (first count : ℕ) : Type 0 where
  by : ℕ
  below : by < count
  passes : test (first + by) ≡ true

any_passes : (test : ℕ → Bool) (first count : ℕ) → list_any test (range_with_len first count) ≡ true → Passes test first count
any_passes test first zero any = absurd cc
any_passes test first (suc count) any = go (test first) refl (any_passes test (first + 1) count) any
  where
    go : (b : Bool) → test first ≡ b →
        (list_any test (range_with_len (first + 1) count) ≡ true → Passes test (first + 1) count) →
        (b || list_any test (range_with_len (first + 1) count)) ≡ true → Passes test first (suc count)
    go true here later any = record { by = 0; below = omega arith; passes = subst (λ (m : ℕ). test m ≡ true) (omega arith) here }
    go false here later any =
        let rest = later any in
        let below : rest.by < count = rest.below in
        record {
          by = rest.by + 1;
          below = omega arith;
          passes = subst (λ (m : ℕ). test m ≡ true) (omega arith) rest.passes;
        }

pub near_passes : (c : ClockSpec) (h : Header) (skew : ℕ × ℕ) (to : Bool) (t : ℕ) → Near c h skew to t →
    is_near c h skew to (back (period h) t 0) ≡ true
near_passes c h skew to t near =
    let region = near.1 in
    let reach : region.by ≤ skew.0 + skew.1 = region.near in
    let test = λ (by : ℕ). is_edge c h to (back (period h) (back (period h) t 0 + skew.0) by) in
    let here : test region.by ≡ true = ap (is_edge c h to) region.there ∙ edge_passes c h to near.0 region.is_edge in
    some_of test 0 (skew.0 + skew.1 + 1) region.by (omega arith) (subst (λ (m : ℕ). test m ≡ true) (omega arith) here)

pub near_is : (c : ClockSpec) (h : Header) (skew : ℕ × ℕ) (to : Bool) (t : ℕ) → 0 < period h →
    is_near c h skew to (back (period h) t 0) ≡ true → Near c h skew to t
near_is c h skew to t pos passes =
    let test = λ (by : ℕ). is_edge c h to (back (period h) (back (period h) t 0 + skew.0) by) in
    let found = any_passes test 0 (skew.0 + skew.1 + 1) passes in
    let below : found.by < skew.0 + skew.1 + 1 = found.below in
    let here : test found.by ≡ true = subst (λ (m : ℕ). test m ≡ true) (omega arith) found.passes in (
      back (period h) (back (period h) t 0 + skew.0) found.by,
      record {
        is_edge = edge_is c h to (back (period h) (back (period h) t 0 + skew.0) found.by)
            (back_lt (period h) (back (period h) t 0 + skew.0) found.by pos) here;
        by = found.by;
        near = omega arith;
        there = refl;
      },
    )

pub away : (c : ClockSpec) (h : Header) (skew : ℕ × ℕ) (to : Bool) (t : ℕ) → 0 < period h → ¬ Near c h skew to t →
    is_near c h skew to (back (period h) t 0) ≡ false
away c h skew to t pos none =
    false_from_ne_true (is_near c h skew to (back (period h) t 0)) (λ passes. none (near_is c h skew to t pos passes))

-- ---- regions share no slot

pub not_both : (c : ClockSpec) (h : Header) (skew : ℕ × ℕ) (t : ℕ) → ¬ SharesSlot c h skew.0 skew.1 →
    Near c h skew true t → Near c h skew false t → ⊥
not_both c h skew t apart rise fall = apart (record {
  to = true;
  edge = rise.0;
  other_to = false;
  other = fall.0;
  slot = back (period h) t 0;
  apart = λ same.
      let high : ideal c h rise.0 ≡ true = rise.1.is_edge.after in
      let low : ideal c h fall.0 ≡ false = fall.1.is_edge.after in cc;
  of_one = rise.1;
  of_other = fall.1;
})

-- ---- the end of a region

-- if it goes on, the next slot is of it
next_near : (c : ClockSpec) (h : Header) (skew : ℕ × ℕ) (to : Bool) (t : ℕ) → 0 < period h → (near : Near c h skew to t) →
    near.1.by < skew.0 + skew.1 → Near c h skew to (t + 1)
next_near c h skew to t pos near less =
    let p = period h in
    let by = near.1.by in
    let later : t + 1 + skew.0 ≡ t + skew.0 + 1 = omega arith in
    let more : 0 + (by + 1) ≡ 1 + by = omega arith in
    let none : by ≡ 0 + by = omega arith in (
      near.0,
      record {
        is_edge = near.1.is_edge;
        by = by + 1;
        near = omega arith;
        there =
            back_sooner p (t + 1) 0 skew.0 (by + 1) ∙ ap (λ (z : ℕ). back p z (0 + (by + 1))) later
            ∙ ap (back p (t + skew.0 + 1)) more ∙ back_later p (t + skew.0) 1 by pos
            ∙ ap (back p (t + skew.0)) none ∙ sym (back_sooner p t 0 skew.0 by) ∙ near.1.there;
      },
    )

-- if the next slot is not of it, its edge is as far back as an edge may come late
pub late_edge : (c : ClockSpec) (h : Header) (skew : ℕ × ℕ) (to : Bool) (t : ℕ) → 0 < period h → (near : Near c h skew to t) →
    ¬ Near c h skew to (t + 1) → back (period h) t skew.1 ≡ near.0
late_edge c h skew to t pos near none =
    let p = period h in
    let reach : near.1.by ≤ skew.0 + skew.1 = near.1.near in
    let all : skew.0 + skew.1 ≡ near.1.by = go (cases_order near.1.by (skew.0 + skew.1)) in
    let start : 0 + (skew.0 + skew.1) ≡ skew.0 + skew.1 = omega arith in
    sym (back_later p t skew.0 skew.1 pos) ∙ ap (back p (t + skew.0)) (sym start)
    ∙ sym (back_sooner p t 0 skew.0 (skew.0 + skew.1)) ∙ ap (back p (back p t 0 + skew.0)) all ∙ near.1.there
  where
    go : (near.1.by ≡ skew.0 + skew.1) ⊎ ((near.1.by < skew.0 + skew.1) ⊎ (skew.0 + skew.1 < near.1.by)) →
        skew.0 + skew.1 ≡ near.1.by
    go (inl same) = sym same
    go (inr (inl less)) = absurd (none (next_near c h skew to t pos near less))
    go (inr (inr more)) = let reach : near.1.by ≤ skew.0 + skew.1 = near.1.near in absurd (omega arith)

pub at_last : (c : ClockSpec) (h : Header) (skew : ℕ × ℕ) (to : Bool) (t : ℕ) → 0 < period h → (near : Near c h skew to t) →
    ¬ Near c h skew to (t + 1) → is_last c h skew to (back (period h) t 0) ≡ true
at_last c h skew to t pos near none =
    let start : 0 + skew.1 ≡ skew.1 = omega arith in
    ap (is_edge c h to)
    (back_back (period h) t 0 skew.1 ∙ ap (back (period h) t) start ∙ late_edge c h skew to t pos near none)
    ∙ edge_passes c h to near.0 near.1.is_edge

-- ---- the ideal clock in a region, from its edge on

other_bit : (to bit : Bool) → (bit ≡ to) ⊎ (bit ≡ not to)
other_bit true true = inl refl
other_bit true false = inr refl
other_bit false true = inr refl
other_bit false false = inl refl

twice_not : (to : Bool) → to ≡ not (not to)
twice_not true = refl
twice_not false = refl

never_both : (to : Bool) → to ≡ not to → ⊥
never_both true same = cc
never_both false same = cc

-- one slot later than where the ideal clock shows the bit of the edge, it does still
stays : (c : ClockSpec) (h : Header) (skew : ℕ × ℕ) (to : Bool) (t edge j : ℕ) → 0 < period h → ¬ SharesSlot c h skew.0 skew.1 →
    IsEdge c h to edge → back (period h) t skew.1 ≡ edge → j ≤ skew.1 →
    ideal c h (back (period h) t (j + 1)) ≡ to → ideal c h (back (period h) t j) ≡ to
stays c h skew to t edge j pos apart is there few was = go (other_bit to (ideal c h (back p t j)))
  where
    p : ℕ
    p = period h

    go : (ideal c h (back p t j) ≡ to) ⊎ (ideal c h (back p t j) ≡ not to) → ideal c h (back p t j) ≡ to
    go (inl same) = same
    go (inr other) =
        let early : j + skew.0 ≡ skew.0 + j = omega arith in
        let all : j + (skew.0 + (skew.1 - j)) ≡ skew.0 + skew.1 = omega arith in
        absurd (apart (record {
          to = to;
          edge = edge;
          other_to = not to;
          other = back p t j;
          slot = back p t j;
          apart = λ same. never_both to (sym is.after ∙ ap (ideal c h) same ∙ other);
          of_one = record {
            is_edge = is;
            by = skew.0 + (skew.1 - j);
            near = omega arith;
            there = back_sooner p t j skew.0 (skew.0 + (skew.1 - j)) ∙ ap (back p (t + skew.0)) all ∙ back_later p t skew.0 skew.1 pos ∙ there;
          };
          of_other = record {
            is_edge = record {
              within = back_lt p t j pos;
              before = ap (ideal c h) (back_back p t j 1) ∙ was ∙ twice_not to;
              after = other;
            };
            by = skew.0;
            near = omega arith;
            there = back_sooner p t j skew.0 skew.0 ∙ ap (back p (t + skew.0)) early ∙ back_later p t skew.0 j pos;
          };
        }))

after_edge : (c : ClockSpec) (h : Header) (skew : ℕ × ℕ) (to : Bool) (t edge : ℕ) → 0 < period h → ¬ SharesSlot c h skew.0 skew.1 →
    IsEdge c h to edge → back (period h) t skew.1 ≡ edge → (later j : ℕ) → later + j ≡ skew.1 → ideal c h (back (period h) t j) ≡ to
after_edge c h skew to t edge pos apart is there zero j at =
    let e : j ≡ skew.1 = omega arith in ap (ideal c h) (ap (back (period h) t) e ∙ there) ∙ is.after
after_edge c h skew to t edge pos apart is there (suc later) j at =
    stays c h skew to t edge j pos apart is there (omega arith)
    (after_edge c h skew to t edge pos apart is there later (j + 1) (omega arith))

-- at the end of a region the ideal clock shows the bit that its edge steps to
pub at_end : (c : ClockSpec) (h : Header) (skew : ℕ × ℕ) (to : Bool) (t : ℕ) → 0 < period h → ¬ SharesSlot c h skew.0 skew.1 →
    (near : Near c h skew to t) → ¬ Near c h skew to (t + 1) → ideal c h (back (period h) t 0) ≡ to
at_end c h skew to t pos apart near none =
    after_edge c h skew to t near.0 pos apart near.1.is_edge (late_edge c h skew to t pos near none) skew.1 0 (omega arith)
