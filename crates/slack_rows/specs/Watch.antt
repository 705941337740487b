-- Watches: what each checker, mark and assertion watches, and the windows in which it is not to
-- change.
use Rattle.std.specs.Prelude.{ℕ, ◌+◌, ◌-◌, ◌==◌, Bool, true, false, not, ◌&&◌, List, [], ◌∷◌, map, filter_map, if◌then◌else◌, is_none, Option, Some, None}
use Rattle.std.specs.List.{range_with_len}
use Rattle.std.specs.Option.{option_map}
use Rattle.scald_base.specs.declared.assertion.AssertSpec.{AssertSpec}
use Rattle.scald_base.specs.declared.assertion.AssertSpec.TheVariants.{None as Unasserted, Precision, Clock, Stable}
use Rattle.scald_base.specs.Time.{Header, period}
use Rattle.step_values.specs.Steps.{has}
use Rattle.element_kinds.specs.declared.kind.Kind.{Kind}
use Rattle.pin_waves.specs.Interface.{wide_wave}
use Rattle.gate_eval.specs.Hold.{is_closed}
use Rattle.fixpoint_engine.specs.Pins.{read}
use Rattle.point_check.specs.Window.{Folds}
use Rattle.point_check.specs.Point.{first_low, last_fall, falls_somewhere}
use Rattle.critical_paths.specs.declared.direction.Direction.{Direction}
use Rattle.critical_paths.specs.declared.direction.Direction.TheVariants.{Rise, Fall, Change}
use Rattle.critical_paths.specs.Event.{Events, events, moves}
use Rattle.critical_paths.specs.Region.{Region, all_events, regions, some_event}
use Rattle.slack_rows.specs.declared.window.Extent.{Extent}
use Rattle.slack_rows.specs.Window.{about, extent_of}
use Rattle.slack_rows.specs.Slack.{Watch}

-- ---- about the rise of a clock

-- a window about each region in which the clock may rise; no change if it may rise in every slot
abbrev pub rise_watch : ℕ → Extent → Folds → Folds → Watch
rise_watch p extent clock input =
    record {
      changes = events Change input;
      windows = map (about p extent) (regions p (events Rise clock));
      never = all_events p (events Rise clock);
    }

-- ---- from the rise of a clock to its fall

-- how long after a rise at a tick the clock falls at last, if it cannot stay high for a period
abbrev pub fall_within : Folds → ℕ → Option ℕ → Option ℕ
fall_within clock t None = None
fall_within clock t (Some low) = option_map (λ high. t + high) (last_fall clock t low)

-- the tick of the last fall after a rise at a tick
abbrev pub fall_of : ℕ → Folds → ℕ → Option ℕ
fall_of p clock t =
    if has (clock t) false true then fall_within clock t (first_low p clock t) else None

abbrev pub falls_at : ℕ → Option ℕ → Bool
falls_at tick None = false
falls_at tick (Some fall) = fall == tick

-- The rises that have their last fall at one tick, as far as they go without a gap: from the first
-- of them to that fall. The tick before is a whole period less one on.
abbrev pub span_by : ℕ → Folds → ℕ → Option ℕ → Option Region
span_by p clock t None = None
span_by p clock t (Some fall) =
    if falls_at (fall + p) (fall_of p clock (t + (p - 1))) then None
    else Some (record { first = t; last = fall })

abbrev pub span_at : ℕ → Folds → ℕ → Option Region
span_at p clock t = span_by p clock t (fall_of p clock t)

abbrev pub spans : ℕ → Folds → List Region
spans p clock = filter_map (span_at p clock) (range_with_len 0 p)

-- The same by how long the clock is high after the rise, and after one in the slot before: if
-- that is one slot more, both have their last fall at one tick.
abbrev pub follows : Option ℕ → ℕ → Bool
follows None high = false
follows (Some before) high = before == high + 1

abbrev pub span_finding : ℕ → Option ℕ → Option ℕ → Option Region
span_finding t before None = None
span_finding t before (Some high) =
    if follows before high then None else Some (record { first = t; last = t + high })

-- it may stay at 1 in every slot
abbrev pub may_stay_high : ℕ → Folds → Bool
may_stay_high p clock = is_none (first_low p clock 0)

-- a window from each such rise to its fall; no change if the clock may stay high for a period,
-- if it rises and falls at all
abbrev pub span_watch : ℕ → Extent → Folds → Folds → Watch
span_watch p extent clock input =
    record {
      changes = events Change input;
      windows = map (about p extent) (spans p clock);
      never = may_stay_high p clock
          && (some_event p (events Rise clock) && falls_somewhere p clock);
    }

-- ---- marks

-- the ticks at which a marked pin lets the others through
abbrev pub opens : Kind → Folds → Events
opens kind mark t = not (is_closed kind (mark t))

-- the window is while the mark lets a pin through, and no change if it always does
abbrev pub gate_watch : ℕ → Kind → Folds → Folds → Watch
gate_watch p kind mark pin =
    record {
      changes = events Change pin;
      windows = map (about p (extent_of 1 0)) (regions p (opens kind mark));
      never = all_events p (opens kind mark);
    }

-- ---- assertions

-- by which directions an assertion is kept: each edge of a clock, or any change of a stable net
abbrev pub directions_of : AssertSpec → List Direction
directions_of Unasserted = []
directions_of (Precision clock) = Rise ∷ Fall ∷ []
directions_of (Clock clock) = Rise ∷ Fall ∷ []
directions_of (Stable spans) = Change ∷ []

-- what an assertion permits in each slot
abbrev pub permitted : Header → AssertSpec → Folds
permitted h spec = read (wide_wave h spec)

-- the ticks at which it permits no step of the direction
abbrev pub forbids : Header → AssertSpec → Direction → Events
forbids h spec d t = not (moves d (has (permitted h spec t)))

-- the window is while it does not, and no change if it never does
abbrev pub net_watch : Header → AssertSpec → Folds → Direction → Watch
net_watch h spec found d =
    record {
      changes = events d found;
      windows = map (about (period h) (extent_of 1 0)) (regions (period h) (forbids h spec d));
      never = all_events (period h) (forbids h spec d);
    }
