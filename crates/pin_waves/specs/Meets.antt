-- What an assertion asks of a net, tick by tick.
use Rattle.std.specs.Prelude.{◌≡◌, ℕ, ◌+◌, ◌-◌, ◌<◌, ◌≤◌, Bool, true, false, List}
use Rattle.scald_base.specs.Time.{Header, period}
use Rattle.scald_base.specs.Clock.{ideal, back, IsInRegion}
use Rattle.scald_base.specs.Quiet.{quiet}
use Rattle.scald_base.specs.Fitting.{skew_of}
use Rattle.scald_base.specs.declared.assertion.Span.{Span}
use Rattle.scald_base.specs.declared.assertion.ClockSpec.{ClockSpec}
use Rattle.scald_base.specs.declared.assertion.AssertSpec.{AssertSpec}
use Rattle.scald_base.specs.declared.assertion.AssertSpec.TheVariants.{None as Unasserted, Precision, Clock, Stable}
use Rattle.scald_base.specs.Signal.{Signal}

-- `.P`: the ideal clock, shifted as a whole by one offset of -early to late.
pub record MeetsPrecision (h : Header) (c : ClockSpec) (n : ℕ) (x : Signal) : Type 0 where
  pub by : ℕ
  pub within : by ≤ (skew_of c h.pskew).0 + (skew_of c h.pskew).1
  pub bits : (t : ℕ) → t < n → x t ≡ ideal c h (back (period h) (t + (skew_of c h.pskew).0) by)

-- the slot of tick t is of the region of an edge to this bit
abbrev pub NearEdge : Header → ClockSpec → Bool → ℕ → Type 0
NearEdge h c to t =
    (edge : ℕ) × IsInRegion c h (skew_of c h.cskew).0 (skew_of c h.cskew).1 to edge
    (back (period h) t 0)

-- `.C`: each edge moves by itself, so near a rise the net does not fall, near a fall it does not
-- rise, and elsewhere it is the ideal clock.
pub record MeetsClock (h : Header) (c : ClockSpec) (n : ℕ) (x : Signal) : Type 0 where
  pub rises : (t : ℕ) → 1 ≤ t → t < n → NearEdge h c true t → x (t - 1) ≡ true → x t ≡ true
  pub falls : (t : ℕ) → 1 ≤ t → t < n → NearEdge h c false t → x (t - 1) ≡ false → x t ≡ false
  pub before : (t : ℕ) → 1 ≤ t → t < n → ¬ NearEdge h c true t → ¬ NearEdge h c false t →
      x (t - 1) ≡ ideal c h (back (period h) t 1)
  pub after : (t : ℕ) → 1 ≤ t → t < n → ¬ NearEdge h c true t → ¬ NearEdge h c false t →
      x t ≡ ideal c h (back (period h) t 0)

-- `.S`: no step in a quiet slot. Without intervals every slot is quiet, and the net is constant.
abbrev pub MeetsStable : Header → List Span → ℕ → Signal → Type 0
MeetsStable h spans n x =
    (t : ℕ) → 1 ≤ t → t < n → quiet spans h (back (period h) t 0) ≡ true → x (t - 1) ≡ x t

-- The first n bits of a net keep its assertion. A net without one is constant, by premise.
abbrev pub Meets : Header → AssertSpec → ℕ → Signal → Type 0
Meets h Unasserted n x = (t : ℕ) → 1 ≤ t → t < n → x (t - 1) ≡ x t
Meets h (Precision c) n x = MeetsPrecision h c n x
Meets h (Clock c) n x = MeetsClock h c n x
Meets h (Stable spans) n x = MeetsStable h spans n x
