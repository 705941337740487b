-- Laws of what assertions ask of a net.
use Rattle.std.proofs.Common.{inl, inr, ◌≡◌, ◌⊎◌, ℕ, ◌+◌, ◌-◌, ◌<◌, ◌≤◌, Bool, true, false, not, refl, sym, ap, subst, ◌∙◌, arith}
use Rattle.scald_base.specs.Time.{Header, period}
use Rattle.scald_base.specs.Clock.{ideal, back, IsInRegion}
use Rattle.scald_base.specs.Quiet.{quiet}
use Rattle.scald_base.specs.Fitting.{skew_of, EdgesOverlap}
use Rattle.scald_base.specs.Signal.{Signal}
use Rattle.scald_base.specs.declared.assertion.ClockSpec.{ClockSpec}
use Rattle.scald_base.specs.declared.assertion.AssertSpec.{AssertSpec}
use Rattle.scald_base.specs.declared.assertion.AssertSpec.TheVariants.{None as Unasserted, Precision, Clock, Stable}
use Rattle.scald_base.proofs.Back.{back_lt, back_zero, back_later, back_back, back_mod, back_sooner, period_later}
use Rattle.pin_waves.specs.Meets.{Meets, NearEdge}
use Rattle.pin_waves.specs.Laws.{later_on, ideal_signal}

-- ---- fewer ticks

pub front : (h : Header) (a : AssertSpec) (m n : ℕ) (x : Signal) → m ≤ n → Meets h a n x →
    Meets h a m x
front h Unasserted m n x fewer meets = λ t one below. meets t one (omega (arith, fewer, below))
front h (Precision c) m n x fewer meets =
    record {
      by = meets.by;
      within = meets.within;
      bits = λ t below. meets.bits t
          (omega (arith, fewer, below));
    }
front h (Clock c) m n x fewer meets =
    record {
      rises = λ t one below. meets.rises t one (omega (arith, fewer, below));
      falls = λ t one below. meets.falls t one (omega (arith, fewer, below));
      before = λ t one below. meets.before t one (omega (arith, fewer, below));
      after = λ t one below. meets.after t one (omega (arith, fewer, below));
    }
front h (Stable spans) m n x fewer meets = λ t one below. meets t one (omega (arith, fewer, below))

-- ---- later ticks

-- a slot back from one of the next period
later_slot : (p t o : ℕ) → back p (t + p) o ≡ back p t o
later_slot p t o =
    sym (back_mod p (t + p) o) ∙ ap (λ (z : ℕ). back p z o) (period_later p t) ∙ back_mod p t o

-- the bit before a later one
before_later : (by : ℕ) (x : Signal) (t : ℕ) → 1 ≤ t → later_on by x (t - 1) ≡ x (t + by - 1)
before_later by x t one = ap x (omega (arith, one))

near_later : (h : Header) (c : ClockSpec) (to : Bool) (t : ℕ) → NearEdge h c to t →
    NearEdge h c to (t + period h)
near_later h c to t near = (
  near.0,
  subst
      (λ (slot : ℕ). IsInRegion c h (skew_of c h.cskew).0 (skew_of c h.cskew).1 to near.0 slot)
      (sym (later_slot (period h) t 0)) near.1,
)

near_sooner : (h : Header) (c : ClockSpec) (to : Bool) (t : ℕ) → NearEdge h c to (t + period h) →
    NearEdge h c to t
near_sooner h c to t near = (
  near.0,
  subst
      (λ (slot : ℕ). IsInRegion c h (skew_of c h.cskew).0 (skew_of c h.cskew).1 to near.0 slot)
      (later_slot (period h) t 0) near.1,
)

pub rest_of_constant : (h : Header) (by n : ℕ) (x : Signal) → Meets h Unasserted (n + by) x →
    Meets h Unasserted n (later_on by x)
rest_of_constant h by n x meets t one below =
    before_later by x t one ∙ meets (t + by) (omega (arith, one)) (omega (arith, below))

pub next_period : (h : Header) (a : AssertSpec) (n : ℕ) (x : Signal) → Meets h a (n + period h) x →
    Meets h a n (later_on (period h) x)
next_period h Unasserted n x meets = rest_of_constant h (period h) n x meets
next_period h (Precision c) n x meets =
    record {
      by = meets.by;
      within = meets.within;
      bits = λ t below.
          let early = (skew_of c h.pskew).0 in
          let turn : t + period h + early ≡ t + early + period h = omega arith in
          meets.bits (t + period h) (omega (arith, below))
          ∙ ap (ideal c h)
          (ap (λ (z : ℕ). back (period h) z meets.by) turn
          ∙ later_slot (period h) (t + early) meets.by);
    }
next_period h (Clock c) n x meets =
    record {
      rises = λ t one below near high.
          meets.rises (t + period h) (omega (arith, one)) (omega (arith, below))
          (near_later h c true t near) (sym (before_later (period h) x t one) ∙ high);
      falls = λ t one below near low.
          meets.falls (t + period h) (omega (arith, one)) (omega (arith, below))
          (near_later h c false t near) (sym (before_later (period h) x t one) ∙ low);
      before = λ t one below up down.
          before_later (period h) x t one
          ∙ meets.before (t + period h) (omega (arith, one)) (omega (arith, below))
          (λ near. up (near_sooner h c true t near))
          (λ near. down (near_sooner h c false t near))
          ∙ ap (ideal c h) (later_slot (period h) t 1);
      after = λ t one below up down.
          meets.after (t + period h) (omega (arith, one)) (omega (arith, below))
          (λ near. up (near_sooner h c true t near))
          (λ near. down (near_sooner h c false t near))
          ∙ ap (ideal c h) (later_slot (period h) t 0);
    }
next_period h (Stable spans) n x meets = λ t one below calm.
    before_later (period h) x t one
    ∙ meets (t + period h) (omega (arith, one)) (omega (arith, below))
    (ap (quiet spans h) (later_slot (period h) t 0) ∙ calm)

-- ---- the ideal clock

pub ideal_precision : (h : Header) (c : ClockSpec) (n : ℕ) → 0 < period h →
    Meets h (Precision c) n (ideal_signal c h)
ideal_precision h c n pos =
    record {
      by = (skew_of c h.pskew).0;
      within = omega arith;
      bits = λ t below.
          let early = (skew_of c h.pskew).0 in
          let same : early + 0 ≡ early = omega arith in
          ap (ideal c h)
          (sym (back_zero (period h) t) ∙ sym (back_later (period h) t early 0 pos)
          ∙ ap (back (period h) (t + early)) same);
    }

-- the ideal clock's bits on both sides of a slot
now_ideal : (h : Header) (c : ClockSpec) (t : ℕ) →
    ideal_signal c h t ≡ ideal c h (back (period h) t 0)
now_ideal h c t = ap (ideal c h) (sym (back_zero (period h) t))

before_ideal : (h : Header) (c : ClockSpec) (t : ℕ) → 0 < period h → 1 ≤ t →
    ideal_signal c h (t - 1) ≡ ideal c h (back (period h) t 1)
before_ideal h c t pos one =
    let on : t - 1 + 1 ≡ t = omega (arith, one) in
    now_ideal h c (t - 1)
    ∙ ap (ideal c h)
    (sym (back_later (period h) (t - 1) 1 0 pos) ∙ ap (λ (z : ℕ). back (period h) z (1 + 0)) on)

either : (b to : Bool) → (b ≡ to) ⊎ (b ≡ not to)
either true true = inl refl
either true false = inr refl
either false true = inr refl
either false false = inl refl

twice : (b : Bool) → b ≡ not (not b)
twice true = refl
twice false = refl

apart_bits : (b to : Bool) → b ≡ to → b ≡ not to → ⊥
apart_bits b to is isnt = absurd (grind (arith, is, isnt))

-- if it leaves a bit, its other edge has the slot in its region
own_region : (h : Header) (c : ClockSpec) (early late : ℕ) (to : Bool) (t : ℕ) → 0 < period h →
    1 ≤ t →
    ideal_signal c h (t - 1) ≡ not to → ideal_signal c h t ≡ to →
    IsInRegion c h early late to (back (period h) t 0) (back (period h) t 0)
own_region h c early late to t pos one before after =
    record {
      is_edge = record {
        within = back_lt (period h) t 0 pos;
        before = ap (ideal c h) (back_back (period h) t 0 1) ∙ sym (before_ideal h c t pos one)
            ∙ before;
        after = sym (now_ideal h c t) ∙ after;
      };
      by = early;
      near = omega arith;
      there =
          let same : 0 + early ≡ early + 0 = omega arith in
          back_sooner (period h) t 0 early early ∙ ap (back (period h) (t + early)) same
          ∙ back_later (period h) t early 0 pos;
    }

-- so it leaves no bit in the region of an edge to it
stays_near : (h : Header) (c : ClockSpec) (to : Bool) (t : ℕ) → 0 < period h → 1 ≤ t →
    ¬ EdgesOverlap h (Clock c) →
    NearEdge h c to t → ideal_signal c h (t - 1) ≡ to → ideal_signal c h t ≡ to
stays_near h c to t pos one alone near before = at (either (ideal_signal c h t) to)
  where
    slot : ℕ
    slot = back (period h) t 0

    at : (ideal_signal c h t ≡ to) ⊎ (ideal_signal c h t ≡ not to) → ideal_signal c h t ≡ to
    at (inl is) = is
    at (inr left) = absurd (alone (inl (record {
      to = to;
      edge = near.0;
      other_to = not to;
      other = slot;
      slot = slot;
      apart = λ same. apart_bits (ideal c h slot) to
          (ap (ideal c h) (sym same) ∙ near.1.is_edge.after) (sym (now_ideal h c t) ∙ left);
      of_one = near.1;
      of_other = own_region h c (skew_of c h.cskew).0 (skew_of c h.cskew).1 (not to) t pos one
          (before ∙ twice to) left;
    })))

pub ideal_clock : (h : Header) (c : ClockSpec) (n : ℕ) → 0 < period h → ¬ EdgesOverlap h (Clock c) →
    Meets h (Clock c) n (ideal_signal c h)
ideal_clock h c n pos alone =
    record {
      rises = λ t one below near high. stays_near h c true t pos one alone near high;
      falls = λ t one below near low. stays_near h c false t pos one alone near low;
      before = λ t one below up down. before_ideal h c t pos one;
      after = λ t one below up down. now_ideal h c t;
    }
