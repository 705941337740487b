-- Signed slack: by how many ticks data may come later before an edge, or earlier after it.
use Rattle.std.specs.Prelude.{ℕ, ◌+◌, ◌*◌, nat_le, nat_lt, Bool, true, false, not, ◌&&◌, ◌||◌, List, [], ◌∷◌, map, ℤ, pos, ◌-ℤ◌, int_lt, int_le, if◌then◌else◌, Option, Some, None}
use Rattle.critical_paths.specs.declared.direction.Direction.{Direction}
use Rattle.critical_paths.specs.declared.direction.Direction.TheVariants.{Change}
use Rattle.critical_paths.specs.Event.{Events, is_first, is_last}
use Rattle.critical_paths.specs.Region.{Region, first_from, last_up_to, region_from, region_to, some_event, all_events}
use Rattle.slack_rows.specs.Window.{Window, Side, Either, begins_before, ends_after, counts_before, counts_after, met}

-- What is to spare before a limit is broken: nothing can break it; so many ticks, which are lacking
-- if there are less than 0; the same of the longest or shortest way alone, if the data may
-- change at any tick; or it is broken, and there is no number.
pub data Slack : Type 0 where
  Free : Slack
  Ticks : ℤ → Slack
  Way : ℤ → Slack
  NoNumber : Slack

-- ---- the order of slacks

-- nothing can break it
abbrev pub is_free : Slack → Bool
is_free Free = true
is_free (Ticks a) = false
is_free (Way a) = false
is_free NoNumber = false

-- fewer ticks than none, a way alone, or no number
abbrev pub is_broken : Slack → Bool
is_broken NoNumber = true
is_broken (Way a) = true
is_broken (Ticks a) = int_lt a (pos 0)
is_broken Free = false

-- By number: no number comes first, and what nothing can break comes last. A way's number comes
-- before an equal one.
abbrev pub is_fewer : Slack → Slack → Bool
is_fewer NoNumber NoNumber = false
is_fewer NoNumber (Way b) = true
is_fewer NoNumber (Ticks b) = true
is_fewer NoNumber Free = true
is_fewer (Way a) NoNumber = false
is_fewer (Way a) (Way b) = int_lt a b
is_fewer (Way a) (Ticks b) = int_le a b
is_fewer (Way a) Free = true
is_fewer (Ticks a) NoNumber = false
is_fewer (Ticks a) (Way b) = int_lt a b
is_fewer (Ticks a) (Ticks b) = int_lt a b
is_fewer (Ticks a) Free = true
is_fewer Free b = false

-- What is broken comes before what is not, and then it goes by number.
abbrev pub broken_first : (Slack → Slack → Bool) → Slack → Slack → Bool
broken_first by_number a b =
    if is_broken a then (if is_broken b then by_number a b else true)
    else (if is_broken b then false else by_number a b)

abbrev pub is_less : Slack → Slack → Bool
is_less a b = broken_first is_fewer a b

-- By the number alone, a way's as any other.
abbrev pub is_lower : Slack → Slack → Bool
is_lower NoNumber NoNumber = false
is_lower NoNumber (Way b) = true
is_lower NoNumber (Ticks b) = true
is_lower NoNumber Free = true
is_lower (Way a) NoNumber = false
is_lower (Way a) (Way b) = int_lt a b
is_lower (Way a) (Ticks b) = int_lt a b
is_lower (Way a) Free = true
is_lower (Ticks a) NoNumber = false
is_lower (Ticks a) (Way b) = int_lt a b
is_lower (Ticks a) (Ticks b) = int_lt a b
is_lower (Ticks a) Free = true
is_lower Free b = false

-- in the table
abbrev pub is_above : Slack → Slack → Bool
is_above a b = broken_first is_lower a b

-- ---- the two changes of a window

-- What launches say of the changes in a window: of which side those of a region are, and, if two
-- launches meet in one region, the last change of the first and the first change of the second.
-- If a change may come in every slot they may give the slack of the longest way before the edge,
-- and that of the shortest after it.
pub record Launches : Type 0 where
  pub side : Window → Region → Side
  pub two : Window → Region → Option (ℕ × ℕ)
  pub last_way : Option ℤ
  pub first_way : Option ℤ

-- nothing is known of launches
abbrev pub no_launches : Launches
no_launches = record { side = λ w r. Either; two = λ w r. None; last_way = None; first_way = None }

-- the last tick of a region that counts before the edge
abbrev pub last_before : ℕ → Events → (Region → Side) → Window → Option ℕ
last_before p ev launched w =
    last_up_to (λ t. is_last ev t && counts_before launched w (region_to p ev t)) (8 * p) (8 * p)

-- the first tick of a region that counts after it
abbrev pub first_after : ℕ → Events → (Region → Side) → Window → Option ℕ
first_after p ev launched w =
    first_from (λ t. is_first p ev t && counts_after launched w (region_from p ev t)) (8 * p) 0

-- the last change before the window is in it, or the first after it is
abbrev pub are_inside : Window → ℕ × ℕ → Bool
are_inside w ticks = nat_lt w.opens ticks.0 || nat_le ticks.1 w.closes

abbrev pub if_inside : Window → Option (ℕ × ℕ) → Option (ℕ × ℕ)
if_inside w None = None
if_inside w (Some ticks) = if are_inside w ticks then Some ticks else None

-- it covers the window, or lies in it
abbrev pub is_open : Window → Region → Bool
is_open w r = if begins_before w r then ends_after w r else not (ends_after w r)

-- Two launches count only if they meet in the one region that meets the window, and break it.
abbrev pub two_launches : Launches → Window → List Region → Option (ℕ × ℕ)
two_launches launches w [] = None
two_launches launches w (r ∷ []) = if is_open w r then if_inside w (launches.two w r) else None
two_launches launches w (r ∷ more) = None

-- Two launches may make the only region that meets a window
abbrev pub two_alone : (Window → Region → Bool) → Window → List Region → Bool
two_alone two w [] = false
two_alone two w (r ∷ []) = is_open w r && two w r
two_alone two w (r ∷ s ∷ more) = false

abbrev pub two_in : ℕ → Events → (Window → Region → Bool) → Window → Bool
two_in p ev two w = two_alone two w (met p ev w)

-- ---- the slacks of a window

-- Where a slack is: nowhere in particular; at the end of a region of changes by a window; at an
-- arrival by one, of two launches; in a pulse, by its begin and width; at a level in a slot.
pub data Place : Type 0 where
  Nowhere : Place
  At : Window → Region → Place
  Arrived : Window → ℕ → Place
  InPulse : ℕ → ℕ → Place
  AtLevel : ℕ → Place

-- a slack, where it is, and by which pin and which of its steps
pub record Finding : Type 0 where
  pub slack : Slack
  pub place : Place
  pub pin : ℕ
  pub direction : Direction

abbrev pub finding_alone : Slack → Finding
finding_alone slack = record { slack = slack; place = Nowhere; pin = 0; direction = Change }

abbrev pub finding_at : Slack → Place → Finding
finding_at slack place = record { slack = slack; place = place; pin = 0; direction = Change }

-- the same by this pin and this direction
abbrev pub finding_of : ℕ → Direction → Finding → Finding
finding_of pin direction finding =
    record { slack = finding.slack; place = finding.place; pin = pin; direction = direction }

-- How many ticks lie from the last change before to the window, at the end of its region, and from
-- the window to the first change after, at the begin of its own. Without a change nothing can
-- break.
abbrev pub before_at : ℕ → Events → Window → Option ℕ → Finding
before_at p ev w None = finding_alone Free
before_at p ev w (Some t) = finding_at (Ticks (pos w.opens -ℤ pos t)) (At w (region_to p ev t))

abbrev pub after_at : ℕ → Events → Window → Option ℕ → Finding
after_at p ev w None = finding_alone Free
after_at p ev w (Some t) = finding_at (Ticks (pos t -ℤ pos (w.closes + 1))) (At w (region_from p ev t))

-- By two launches, if there are two; or else by the regions.
abbrev pub before_by : ℕ → Events → Window → Option (ℕ × ℕ) → Option ℕ → Finding
before_by p ev w None last = before_at p ev w last
before_by p ev w (Some ticks) last =
    finding_at (Ticks (pos w.opens -ℤ pos ticks.0)) (Arrived w ticks.0)

abbrev pub after_by : ℕ → Events → Window → Option (ℕ × ℕ) → Option ℕ → Finding
after_by p ev w None first = after_at p ev w first
after_by p ev w (Some ticks) first =
    finding_at (Ticks (pos ticks.1 -ℤ pos (w.closes + 1))) (Arrived w ticks.1)

abbrev pub before_window : ℕ → Events → Launches → Window → Finding
before_window p ev launches w =
    before_by p ev w (two_launches launches w (met p ev w)) (last_before p ev (launches.side w) w)

abbrev pub after_window : ℕ → Events → Launches → Window → Finding
after_window p ev launches w =
    after_by p ev w (two_launches launches w (met p ev w)) (first_after p ev (launches.side w) w)

-- ---- the least of several

-- of two the second only if it is less
abbrev pub lesser : Finding → Finding → Finding
lesser best finding = if is_less finding.slack best.slack then finding else best

-- the first that none after it is less than
abbrev pub least_from : Finding → List Finding → Finding
least_from best [] = best
least_from best (finding ∷ more) =
    if is_less finding.slack best.slack then least_from finding more else least_from best more

abbrev pub least : List Finding → Finding
least findings = least_from (finding_alone Free) findings

-- ---- the slacks of a watch

-- Data, and the windows in which it is not to change, of a period of p ticks; or it is never to
-- change.
pub record Watch : Type 0 where
  pub changes : Events
  pub windows : List Window
  pub never : Bool

-- it has to do with a change
abbrev pub is_met : List Window → Bool → Bool
is_met windows true = true
is_met [] false = false
is_met (w ∷ windows) false = true

-- The data may come in every slot: the number of a way, if there is one.
abbrev pub by_way : Option ℤ → Slack
by_way None = NoNumber
by_way (Some n) = Way n

abbrev pub without_number : Bool → Option ℤ → Slack
without_number true way = NoNumber
without_number false way = by_way way

-- No change is none; if it may come in every slot, or is never to come, there is no number of
-- the wave.
abbrev pub finding_by : (Window → Finding) → Option ℤ → ℕ → Watch → Finding
finding_by at way p watch =
    if some_event p watch.changes && is_met watch.windows watch.never
    then (if all_events p watch.changes || watch.never
    then finding_alone (without_number watch.never way)
    else least (map at watch.windows))
    else finding_alone Free

abbrev pub finding_before : ℕ → Launches → Watch → Finding
finding_before p launches watch =
    finding_by (before_window p watch.changes launches) launches.last_way p watch

abbrev pub finding_after : ℕ → Launches → Watch → Finding
finding_after p launches watch =
    finding_by (after_window p watch.changes launches) launches.first_way p watch
