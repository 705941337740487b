-- Steps of a signal, and the pulses between two of them that follow one another.
use Rattle.std.proofs.Common.{◌≡◌, ◌≢◌, ℕ, zero, suc, ◌-◌, ◌<◌, ◌≤◌, Bool, true, false, not, cond, leb, Some, None, is_some, refl, ap, sym, ◌∙◌, arith, inl, inr}
use Rattle.std.proofs.lemmas.Bool.{cases_eq, le-leb, leb-true}
use Rattle.std.proofs.lemmas.Option.{same_Some}
use Rattle.scald_base.specs.Signal.{Signal}
use Rattle.point_check.specs.Break.{Changes, IsHighTo}
use Rattle.pulse_check.specs.Break.{IsPulse}
use Rattle.trace_tool.specs.Pass.{changed, last_step, step_at, steps}
use Rattle.trace_tool.proofs.Last.{last_at, last_is}

-- ---- two bits

pub not_not : (b : Bool) → not (not b) ≡ b
not_not true = refl
not_not false = refl

pub apart : (b : Bool) → not b ≢ b
apart true e = absurd (cc)
apart false e = absurd (cc)

-- The bits step to this one.
record Steps (before now bit : Bool) : Type 0 where
  before_is : before ≡ not bit
  now_is : now ≡ bit

to_bit : (before now bit : Bool) → changed before now ≡ Some bit → Steps before now bit
to_bit true true bit e = absurd (cc)
to_bit true false bit e = let at = same_Some false bit e in record { before_is = ap not at; now_is = at }
to_bit false true bit e = let at = same_Some true bit e in record { before_is = ap not at; now_is = at }
to_bit false false bit e = absurd (cc)

from_bit : (before now bit : Bool) → before ≡ not bit → now ≡ bit → changed before now ≡ Some bit
from_bit true true bit e f = absurd (apart bit (sym e ∙ f))
from_bit true false bit e f = ap Some f
from_bit false true bit e f = ap Some f
from_bit false false bit e f = absurd (apart bit (sym e ∙ f))

differ : (before now : Bool) → is_some (changed before now) ≡ true → before ≢ now
differ true true e f = absurd (cc)
differ true false e f = absurd (cc)
differ false true e f = absurd (cc)
differ false false e f = absurd (cc)

changed_from : (before now : Bool) → before ≢ now → is_some (changed before now) ≡ true
changed_from true true e = absurd (e refl)
changed_from true false e = refl
changed_from false true e = refl
changed_from false false e = absurd (e refl)

same_from : (before now : Bool) → is_some (changed before now) ≡ false → before ≡ now
same_from true true e = refl
same_from true false e = absurd (cc)
same_from false true e = absurd (cc)
same_from false false e = refl

unchanged : (before now : Bool) → before ≡ now → is_some (changed before now) ≡ false
unchanged true true e = refl
unchanged true false e = absurd (cc)
unchanged false true e = absurd (cc)
unchanged false false e = refl

pub other_level : (x y : Bool) → x ≢ y → x ≡ not y
other_level true true e = absurd (e refl)
other_level true false e = refl
other_level false true e = refl
other_level false false e = absurd (e refl)

pub other_of : (x y level : Bool) → x ≢ y → y ≡ level → x ≡ not level
other_of x y level e f = other_level x y e ∙ ap not f

-- ---- steps at a tick

-- The signal steps to this bit at a tick at which steps count.
pub record StepsTo (begin : ℕ) (x : Signal) (bit : Bool) (t : ℕ) : Type 0 where
  pub counts : begin ≤ t
  pub before : x (t - 1) ≡ not bit
  pub now : x t ≡ bit

pub steps_to : (begin : ℕ) (x : Signal) (bit : Bool) (t : ℕ) → step_at begin x t ≡ Some bit → StepsTo begin x bit t
steps_to begin x bit t e = by (leb begin t) refl e
  where
    by : (b : Bool) → leb begin t ≡ b → cond b (changed (x (t - 1)) (x t)) None ≡ Some bit → StepsTo begin x bit t
    by true is at =
        let both = to_bit (x (t - 1)) (x t) bit at in
        record { counts = leb-true begin t is; before = both.before_is; now = both.now_is }
    by false is at = absurd (cc)

pub step_is : (begin : ℕ) (x : Signal) (bit : Bool) (t : ℕ) → StepsTo begin x bit t → step_at begin x t ≡ Some bit
step_is begin x bit t s =
    rw (le-leb begin t s.counts) (from_bit (x (t - 1)) (x t) bit s.before s.now)

pub record Counts (begin : ℕ) (x : Signal) (t : ℕ) : Type 0 where
  pub counts : begin ≤ t
  pub changes : Changes x t

pub counts_at : (begin : ℕ) (x : Signal) (t : ℕ) → steps begin x t ≡ true → Counts begin x t
counts_at begin x t e = by (leb begin t) refl e
  where
    by : (b : Bool) → leb begin t ≡ b → is_some (cond b (changed (x (t - 1)) (x t)) None) ≡ true → Counts begin x t
    by true is at = record { counts = leb-true begin t is; changes = differ (x (t - 1)) (x t) at }
    by false is at = absurd (cc)

pub steps_at : (begin : ℕ) (x : Signal) (t : ℕ) → Counts begin x t → steps begin x t ≡ true
steps_at begin x t s = rw (le-leb begin t s.counts) (changed_from (x (t - 1)) (x t) s.changes)

-- no step, if steps count
stays_at : (begin : ℕ) (x : Signal) (t : ℕ) → begin ≤ t → steps begin x t ≡ false → x (t - 1) ≡ x t
stays_at begin x t counts e = by (leb begin t) (le-leb begin t counts) e
  where
    by : (b : Bool) → b ≡ true → is_some (cond b (changed (x (t - 1)) (x t)) None) ≡ false → x (t - 1) ≡ x t
    by true is at = same_from (x (t - 1)) (x t) at
    by false is at = absurd (cc)

no_step : (begin : ℕ) (x : Signal) (t : ℕ) → x (t - 1) ≡ x t → steps begin x t ≡ false
no_step begin x t e = by (leb begin t)
  where
    by : (b : Bool) → is_some (cond b (changed (x (t - 1)) (x t)) None) ≡ false
    by true = unchanged (x (t - 1)) (x t) e
    by false = refl

pub some_step : (begin : ℕ) (x : Signal) (bit : Bool) (t : ℕ) → step_at begin x t ≡ Some bit → steps begin x t ≡ true
some_step begin x bit t e = ap is_some e

-- ---- pulses

-- a signal that does not step keeps its bit
pub kept : (x : Signal) (start end : ℕ) → ((t : ℕ) → start < t → t < end → x (t - 1) ≡ x t) → (t : ℕ) → start ≤ t → t < end → x t ≡ x start
kept x start end still zero from less = ap x (omega arith)
kept x start end still (suc t) from less = elim (cases_eq start (suc t)) as (λ _. x (suc t) ≡ x start) [
  | inl here ↦ ap x (sym here)
  | inr apart ↦
      let back : suc t - 1 ≡ t = omega arith in
      sym (still (suc t) (omega arith) less) ∙ ap x back ∙ kept x start end still t (omega arith) (omega arith)
]

-- the last step before one away from a level came to the level, and the pulse is between them
pub pulse_between : (begin : ℕ) (x : Signal) (level : Bool) (start end : ℕ) → StepsTo begin x (not level) end →
    last_step begin x end ≡ Some start → IsPulse x level start end
pulse_between begin x level start end step last =
    let at = last_at (steps begin x) end start last in
    let came = counts_at begin x start at.passes in
    let inside = at.below in
    let counts = came.counts in
    let same = kept x start end (λ t after before. stays_at begin x t (omega arith) (at.none_after t after before)) in
    let high : x (end - 1) ≡ level = step.before ∙ not_not level in
    let level_is : x start ≡ level = sym (same (end - 1) (omega arith) (omega arith)) ∙ high in
    record {
      before = other_of (x (start - 1)) (x start) level came.changes level_is;
      ordered = inside;
      during = λ t from less. same t from less ∙ level_is;
      behind = step.now;
    }

pub begins_at : (begin : ℕ) (x : Signal) (start end : ℕ) → last_step begin x end ≡ Some start → begin ≤ start
begins_at begin x start end last = (counts_at begin x start (last_at (steps begin x) end start last).passes).counts

pub from_start : (begin : ℕ) (x : Signal) (level : Bool) (start end : ℕ) → IsPulse x level start end → begin ≤ start →
    last_step begin x end ≡ Some start
from_start begin x level start end p counts = last_is (steps begin x) end start (record {
  below = p.ordered;
  passes = steps_at begin x start (record {
    counts = counts;
    changes = λ same. apart level (sym p.before ∙ same ∙ p.during start (omega arith) p.ordered);
  });
  none_after = λ t after before. no_step begin x t (p.during (t - 1) (omega arith) (omega arith) ∙ sym (p.during t (omega arith) before));
})

pub to_end : (begin : ℕ) (x : Signal) (level : Bool) (start end : ℕ) → IsPulse x level start end → begin ≤ start →
    StepsTo begin x (not level) end
to_end begin x level start end p counts =
    let ordered = p.ordered in
    record {
      counts = omega arith;
      before = p.during (end - 1) (omega arith) (omega arith) ∙ sym (not_not level);
      now = p.behind;
    }

-- a high pulse is what a rise and a fall have between them
pub as_high : (x : Signal) (rise fall : ℕ) → IsPulse x true rise fall → IsHighTo x rise fall
as_high x rise fall p = record {
  rises = (p.before, p.during rise (omega arith) p.ordered);
  ordered = p.ordered;
  high = p.during;
  falls = p.behind;
}

pub as_pulse : (x : Signal) (rise fall : ℕ) → IsHighTo x rise fall → IsPulse x true rise fall
as_pulse x rise fall h = record {
  before = h.rises.0;
  ordered = h.ordered;
  during = h.high;
  behind = h.falls;
}
