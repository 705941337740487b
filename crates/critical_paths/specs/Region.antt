-- Regions: events without a gap, as far as they go. Where every slot has an event there is none.
use Rattle.std.specs.Prelude.{◌≡◌, ℕ, zero, suc, ◌+◌, ◌-◌, ◌≤◌, Bool, true, false, not, List, map, filter, if◌then◌else◌, unwrap_or, is_some, is_none, Option, Some, None}
use Rattle.std.specs.List.{range_with_len}
use Rattle.critical_paths.specs.Event.{Events, is_first, is_last}

-- in a period of p ticks the events repeat
abbrev pub IsCyclic : ℕ → Events → Type 0
IsCyclic p ev = (t : ℕ) → ev (t + p) ≡ ev t

-- from its first tick to its last
pub record Region : Type 0 where
  pub first : ℕ
  pub last : ℕ

-- the ticks from the first to the last are events, and those beside them are not
pub record IsRegion (p : ℕ) (ev : Events) (first last : ℕ) : Type 0 where
  pub ordered : first ≤ last
  pub each : (t : ℕ) → first ≤ t → t ≤ last → ev t ≡ true
  pub before : ev (first + (p - 1)) ≡ false
  pub after : ev (last + 1) ≡ false

-- ---- searches

-- the first of n ticks from t on that passes
abbrev pub first_from : (ℕ → Bool) → ℕ → ℕ → Option ℕ
first_from test zero t = None
first_from test (suc n) t = if test t then Some t else first_from test n (t + 1)

-- the last of n ticks up to t that passes
abbrev pub last_up_to : (ℕ → Bool) → ℕ → ℕ → Option ℕ
last_up_to test zero t = None
last_up_to test (suc n) t = if test t then Some t else last_up_to test n (t - 1)

-- ---- regions

-- the region that begins at a tick: it ends at the first last tick from there on
abbrev pub region_from : ℕ → Events → ℕ → Region
region_from p ev t = record { first = t; last = unwrap_or (first_from (is_last ev) p t) t }

-- the region that ends at a tick: it begins at the last first tick up to there
abbrev pub region_to : ℕ → Events → ℕ → Region
region_to p ev t = record { first = unwrap_or (last_up_to (is_first p ev) p t) t; last = t }

-- those that begin at n ticks from t on
abbrev pub regions_from : ℕ → Events → ℕ → ℕ → List Region
regions_from p ev n t = map (region_from p ev) (filter (is_first p ev) (range_with_len t n))

-- Those of a period, each once: a region begins in the period, and may end in the next.
abbrev pub regions : ℕ → Events → List Region
regions p ev = regions_from p ev p 0

-- some slot has an event, and all slots have
abbrev pub some_event : ℕ → Events → Bool
some_event p ev = is_some (first_from ev p 0)

abbrev pub all_events : ℕ → Events → Bool
all_events p ev = is_none (first_from (λ t. not (ev t)) p 0)
