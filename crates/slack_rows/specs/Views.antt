-- The program's slacks, in the words of the definitions.
use Rattle.std.specs.Prelude.{◌≡◌, ℕ, ◌*◌, ◌^◌, nat_le, not, ◌&&◌, Bool, true, false, ℤ, pos, ◌+ℤ◌, ◌-ℤ◌, ◌≤ℤ◌, unsigned_abs, if◌then◌else◌, unwrap_or, Option, Some, None}
use Rattle.element_kinds.specs.declared.form.Check.{Check}
use Rattle.element_kinds.specs.declared.form.Check.TheVariants.{SetupHold as AboutRise, RiseFall as RiseToFall, MinPulse as Widths}
use Rattle.critical_paths.specs.declared.direction.Corner.{Corner}
use Rattle.critical_paths.specs.declared.direction.Corner.TheVariants.{Late as LateCorner, Early as EarlyCorner}
use Rattle.critical_paths.specs.declared.direction.Direction.{Direction}
use Rattle.critical_paths.specs.declared.direction.Direction.TheVariants.{Rise, Fall, Change}
use Rattle.critical_paths.specs.declared.region.Region.{Region as Ticked}
use Rattle.critical_paths.specs.Region.{Region}
use Rattle.critical_paths.specs.Tick.{slot_of}
use Rattle.slack_rows.specs.declared.parameter.Word.{Word as Limit}
use Rattle.slack_rows.specs.declared.parameter.Word.TheVariants.{Setup, Hold, High, Low, Gate, Before as GateBefore, After as GateAfter, Assert, From as StableFrom, To as StableTo}
use Rattle.slack_rows.specs.declared.slack.Slack.{Slack as Number}
use Rattle.slack_rows.specs.declared.slack.Slack.TheVariants.{NoNumber as NumberOfNone, Ticks as NumberOfTicks, Way as NumberOfWay}
use Rattle.slack_rows.specs.declared.slack.Reason.{Reason}
use Rattle.slack_rows.specs.declared.slack.Reason.TheVariants.{Data, DataLoop, Clock, High as StaysHigh, Mark, Still, Level}
use Rattle.slack_rows.specs.declared.slack.By.{By}
use Rattle.slack_rows.specs.declared.slack.By.TheVariants.{Region as ByRegion, Way as ByWay, Quiet, Pulse, Swallowed, Repeated, Nothing}
use Rattle.slack_rows.specs.declared.slack.Rank.{Rank}
use Rattle.slack_rows.specs.declared.slack.Slacks.{Slacks}
use Rattle.slack_rows.specs.declared.slack.Finding.{Finding as Found}
use Rattle.slack_rows.specs.declared.around.Side.{Side as Counted}
use Rattle.slack_rows.specs.declared.around.Side.TheVariants.{Before as LiesBefore, Late as CountsLate, Early as CountsEarly, Either as CountsEither, Two as CountsTwo, After as LiesAfter}
use Rattle.slack_rows.specs.declared.table.Shape.{Shape}
use Rattle.slack_rows.specs.declared.window.Window.{Window as Around}
use Rattle.slack_rows.specs.declared.window.Extent.{Extent}
use Rattle.slack_rows.specs.Window.{Window, Side, Late, Early, Either, extent_of}
use Rattle.slack_rows.specs.Slack.{Slack, Free, Ticks, Way, NoNumber, Place, Nowhere, At, Arrived, InPulse, AtLevel, Finding, is_broken, is_less}

-- ---- slacks

abbrev pub slack_by : Number → Slack
slack_by (NumberOfNone reason) = NoNumber
slack_by (NumberOfTicks n) = Ticks n
slack_by (NumberOfWay n) = Way n

-- none is that nothing can break it
abbrev pub slack_finding : Option Found → Slack
slack_finding None = Free
slack_finding (Some found) = slack_by found.slack

abbrev pub number_of : Number → Option ℤ
number_of (NumberOfNone reason) = None
number_of (NumberOfTicks n) = Some n
number_of (NumberOfWay n) = Some n

abbrev pub ticks_of : Number → ℤ
ticks_of (NumberOfNone reason) = pos 0
ticks_of (NumberOfTicks n) = n
ticks_of (NumberOfWay n) = n

abbrev pub rank_of : Number → Rank
rank_of slack = record { is_met = not (is_broken (slack_by slack)); ticks = number_of slack }

-- of two the second only if it is less
abbrev pub lesser_found : Option Found → Option Found → Option Found
lesser_found best found = if is_less (slack_finding found) (slack_finding best) then found else best

-- ---- where they are

-- a tick as the definitions count it, from three periods before
abbrev pub ahead_of : ℕ → ℤ → ℕ
ahead_of p tick = unsigned_abs (pos (3 * p) +ℤ tick)

-- a window by its edge, from so many ticks before it to so many after it
abbrev pub window_about : Ticked → Extent → Around
window_about edge extent =
    record {
      first = edge.first;
      last = edge.last;
      from = edge.first -ℤ pos extent.before +ℤ pos 1;
      to = edge.last +ℤ pos extent.after;
    }

abbrev pub window_in : ℕ → Around → Window
window_in p w =
    record {
      edge_first = ahead_of p w.first;
      edge_last = ahead_of p w.last;
      opens = ahead_of p (w.from -ℤ pos 1);
      closes = ahead_of p w.to;
    }

-- a region as the definitions count its ticks
abbrev pub region_in : ℕ → Ticked → Region
region_in p r = record { first = ahead_of p r.first; last = ahead_of p r.last }

abbrev pub place_without : Reason → Place
place_without Data = Nowhere
place_without DataLoop = Nowhere
place_without Clock = Nowhere
place_without StaysHigh = Nowhere
place_without Mark = Nowhere
place_without Still = Nowhere
place_without (Level high slot) = AtLevel slot

abbrev pub in_pulse : Found → Place
in_pulse found = InPulse (unsigned_abs found.tick)
    (unsigned_abs (found.window.last -ℤ found.window.first))

-- A pulse that may be swallowed is one slot wide.
abbrev pub place_by : ℕ → Found → By → Place
place_by p found (ByRegion region) = At (window_in p found.window) (region_in p region)
place_by p found (ByWay node) = Arrived (window_in p found.window) (ahead_of p found.tick)
place_by p found Quiet = Nowhere
place_by p found Pulse = in_pulse found
place_by p found Swallowed = InPulse (unsigned_abs found.tick) 1
place_by p found Repeated = in_pulse found
place_by p found Nothing = Nowhere

abbrev pub place_of : ℕ → Found → Number → Place
place_of p found (NumberOfNone reason) = place_without reason
place_of p found (NumberOfTicks n) = place_by p found found.by
place_of p found (NumberOfWay n) = Nowhere

abbrev pub finding_by_found : ℕ → Found → Finding
finding_by_found p found =
    record {
      slack = slack_by found.slack;
      place = place_of p found found.slack;
      pin = found.pin;
      direction = found.direction;
    }

-- a window and a region near the period in which its edge begins
abbrev pub is_close : ℤ → Bool
is_close tick = nat_le (unsigned_abs tick) (2 ^ 20)

abbrev pub are_close : Around → Ticked → Bool
are_close w r = is_close w.from && (is_close r.first && is_close r.last)

-- A number by a region. The region and its window do not begin before the ticks that the
-- definitions count, so that two of them compare as the definitions say.
pub record IsByRegion (p : ℕ) (found : Found) (r : Ticked) : Type 0 where
  pub near : are_close found.window r ≡ true
  pub number : (n : ℤ) × (found.slack ≡ NumberOfTicks n)
  pub opens : pos 0 ≤ℤ (pos (3 * p) +ℤ (found.window.from -ℤ pos 1))
  pub first : pos 0 ≤ℤ (pos (3 * p) +ℤ r.first)
  pub last : pos 0 ≤ℤ (pos (3 * p) +ℤ r.last)

-- in which slot of a period of p a region begins, and how many ticks come after that
abbrev pub shape_in : ℕ → Ticked → Shape
shape_in p r = record { slot = slot_of p r.first; ticks = r.last -ℤ r.first }

-- the region that it comes from, if it comes from one
abbrev pub region_finding : By → Option Ticked
region_finding (ByRegion region) = Some region
region_finding (ByWay node) = None
region_finding Quiet = None
region_finding Pulse = None
region_finding Swallowed = None
region_finding Repeated = None
region_finding Nothing = None

abbrev pub IsNear : ℕ → Found → By → Type 0
IsNear p found (ByRegion region) = IsByRegion p found region
IsNear p found (ByWay node) = Unit {0}
IsNear p found Quiet = Unit {0}
IsNear p found Pulse = Unit {0}
IsNear p found Swallowed = Unit {0}
IsNear p found Repeated = Unit {0}
IsNear p found Nothing = Unit {0}

pub record IsFinding (p : ℕ) (found : Found) (finding : Finding) : Type 0 where
  pub is : finding ≡ finding_by_found p found
  pub near : IsNear p found found.by

-- The program's slack is the defined one: if nothing can break, none.
abbrev pub Tells : ℕ → Option Found → Finding → Type 0
Tells p None finding = finding.slack ≡ Free
Tells p (Some found) finding = IsFinding p found finding

-- how many ticks lie between a tick and a window, before it or after it
abbrev pub spare_at : Corner → Around → ℤ → ℤ
spare_at LateCorner w tick = w.from -ℤ pos 1 -ℤ tick
spare_at EarlyCorner w tick = tick -ℤ w.to -ℤ pos 1

-- the end of a region that counts at a corner, and what it has to spare
abbrev pub end_at : Corner → Ticked → ℤ
end_at LateCorner r = r.last
end_at EarlyCorner r = r.first

abbrev pub finding_by_region : ℕ → Direction → Corner → Around → Ticked → Found
finding_by_region pin direction corner w r =
    record {
      slack = NumberOfTicks (spare_at corner w (end_at corner r));
      window = w;
      pin = pin;
      direction = direction;
      tick = end_at corner r;
      by = ByRegion r;
    }

-- a pulse that may change more than once
abbrev pub comes_again : By → Bool
comes_again (ByRegion region) = false
comes_again (ByWay node) = false
comes_again Quiet = false
comes_again Pulse = false
comes_again Swallowed = false
comes_again Repeated = true
comes_again Nothing = false

-- when a pulse begins whose slot is known: one that may be swallowed as late as it may
abbrev pub pulse_begin : Option ℤ → ℤ → By → ℤ
pulse_begin late slot (ByRegion region) = slot
pulse_begin late slot (ByWay node) = slot
pulse_begin late slot Quiet = slot
pulse_begin late slot Pulse = slot
pulse_begin late slot Swallowed = unwrap_or late slot
pulse_begin late slot Repeated = slot
pulse_begin late slot Nothing = slot

-- The window of a width is the pulse, from its begin on.
pub record IsPulseWindow (limit : ℕ) (late : Option ℤ) (found : Found) : Type 0 where
  pub first : found.window.first ≡ pulse_begin late found.tick found.by
  pub slack : found.slack
      ≡ NumberOfTicks (found.window.last -ℤ found.window.first -ℤ pos limit)

-- a number of a way, or none: it is broken whatever it is
abbrev pub is_starred : Slack → Bool
is_starred Free = false
is_starred (Ticks n) = false
is_starred (Way n) = true
is_starred NoNumber = true

-- the side of a region that meets a window; two launches are on either
abbrev pub side_in : Counted → Side
side_in CountsLate = Late
side_in CountsEarly = Early
side_in CountsEither = Either
side_in CountsTwo = Either
side_in LiesBefore = Either
side_in LiesAfter = Either

abbrev pub is_two : Counted → Bool
is_two CountsLate = false
is_two CountsEarly = false
is_two CountsEither = false
is_two CountsTwo = true
is_two LiesBefore = false
is_two LiesAfter = false

abbrev pub meets_window : Counted → Bool
meets_window CountsLate = true
meets_window CountsEarly = true
meets_window CountsEither = true
meets_window CountsTwo = true
meets_window LiesBefore = false
meets_window LiesAfter = false

-- its last tick counts before the edge
abbrev pub counts_last : Counted → Bool
counts_last CountsLate = true
counts_last CountsEarly = false
counts_last CountsEither = true
counts_last CountsTwo = true
counts_last LiesBefore = true
counts_last LiesAfter = false

-- its first tick counts after the edge
abbrev pub counts_first : Counted → Bool
counts_first CountsLate = false
counts_first CountsEarly = true
counts_first CountsEither = true
counts_first CountsTwo = true
counts_first LiesBefore = false
counts_first LiesAfter = true

-- ---- limits

-- which end of the data's changes counts
abbrev pub corner_of : Limit → Corner
corner_of Setup = LateCorner
corner_of GateBefore = LateCorner
corner_of StableFrom = LateCorner
corner_of Hold = EarlyCorner
corner_of High = EarlyCorner
corner_of Low = EarlyCorner
corner_of Gate = EarlyCorner
corner_of GateAfter = EarlyCorner
corner_of Assert = EarlyCorner
corner_of StableTo = EarlyCorner

abbrev pub is_of_width : Limit → Bool
is_of_width Setup = false
is_of_width GateBefore = false
is_of_width StableFrom = false
is_of_width Hold = false
is_of_width High = true
is_of_width Low = true
is_of_width Gate = false
is_of_width GateAfter = false
is_of_width Assert = false
is_of_width StableTo = false

abbrev pub slack_for : Slacks → Limit → Option Found
slack_for slacks Setup = slacks.before
slack_for slacks GateBefore = slacks.before
slack_for slacks StableFrom = slacks.before
slack_for slacks Hold = slacks.after
slack_for slacks High = slacks.before
slack_for slacks Low = slacks.after
slack_for slacks Gate = slacks.level
slack_for slacks GateAfter = slacks.after
slack_for slacks Assert = slacks.level
slack_for slacks StableTo = slacks.after

-- no number
abbrev pub finding_none : Reason → ℕ → Direction → Found
finding_none reason pin direction =
    record {
      slack = NumberOfNone reason;
      window = window_about (record { first = pos 0; last = pos 0 }) (extent_of 0 0);
      pin = pin;
      direction = direction;
      tick = pos 0;
      by = Nothing;
    }

-- the slot of a level that an assertion does not permit
abbrev pub level_slot : Option Reason → Option ℕ
level_slot None = None
level_slot (Some Data) = None
level_slot (Some DataLoop) = None
level_slot (Some Clock) = None
level_slot (Some StaysHigh) = None
level_slot (Some Mark) = None
level_slot (Some Still) = None
level_slot (Some (Level high slot)) = Some slot

abbrev pub finding_level_by : Option Reason → Option Found
finding_level_by None = None
finding_level_by (Some reason) = Some (finding_none reason 0 Change)

-- the step with which the windows of a checker end
abbrev pub closing : Check → Direction
closing AboutRise = Rise
closing RiseToFall = Fall
closing Widths = Rise

-- it holds an input against edges
abbrev pub checks_edges : Check → Bool
checks_edges AboutRise = true
checks_edges RiseToFall = true
checks_edges Widths = false
