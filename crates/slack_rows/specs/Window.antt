-- Windows: the ticks about an edge in which data is not to change, and on which side of the edge a
-- change in one counts.
use Rattle.std.specs.Prelude.{ℕ, ◌+◌, ◌-◌, ◌*◌, nat_le, nat_lt, Bool, true, false, not, ◌&&◌, ◌||◌, List, filter}
use Rattle.critical_paths.specs.Event.{Events}
use Rattle.critical_paths.specs.Region.{Region, regions_from}
use Rattle.slack_rows.specs.declared.window.Extent.{Extent}

-- The edge lies between two ticks, which are both its own; the window goes from the tick after
-- `opens` to `closes`.
pub record Window : Type 0 where
  pub edge_first : ℕ
  pub edge_last : ℕ
  pub opens : ℕ
  pub closes : ℕ

-- Ticks count from three periods before the period in which an edge begins, so that what lies
-- before a window is there.
abbrev pub ahead : ℕ → ℕ → ℕ
ahead p t = 3 * p + t

-- how far a window goes before an edge and after it
abbrev pub extent_of : ℕ → ℕ → Extent
extent_of before after = record { before = before; after = after }

-- from so many ticks before the edges of a region, the first of which counts, to so many after the
-- last
abbrev pub about : ℕ → Extent → Region → Window
about p extent r =
    record {
      edge_first = ahead p r.first;
      edge_last = ahead p r.last;
      opens = ahead p r.first - extent.before;
      closes = ahead p r.last + extent.after;
    }

-- ---- where a region lies

-- it ends before the window begins
abbrev pub is_before : Window → Region → Bool
is_before w r = nat_le r.last w.opens

-- it begins after the window ends
abbrev pub is_after : Window → Region → Bool
is_after w r = nat_lt w.closes r.first

-- they share a tick
abbrev pub meets : Window → Region → Bool
meets w r = not (is_before w r) && not (is_after w r)

-- ---- sides

-- Of the changes in a window: they come too late for the edge, too early after it, or either, since
-- no side is known.
pub data Side : Type 0 where
  Late : Side
  Early : Side
  Either : Side

abbrev pub is_late : Side → Bool
is_late Late = true
is_late Early = false
is_late Either = true

abbrev pub is_early : Side → Bool
is_early Late = false
is_early Early = true
is_early Either = true

abbrev pub begins_before : Window → Region → Bool
begins_before w r = nat_le r.first w.opens

abbrev pub ends_after : Window → Region → Bool
ends_after w r = nat_lt w.closes r.last

-- A region that ends in the window is late, and one that begins in it is early. One that covers it
-- or lies in it is of the side that its launch gives it.
abbrev pub side_by_ends : Bool → Bool → (Region → Side) → Region → Side
side_by_ends true true launched r = launched r
side_by_ends true false launched r = Late
side_by_ends false true launched r = Early
side_by_ends false false launched r = launched r

abbrev pub side_of : (Region → Side) → Window → Region → Side
side_of launched w r = side_by_ends (begins_before w r) (ends_after w r) launched r

-- its last tick counts before the edge
abbrev pub counts_before : (Region → Side) → Window → Region → Bool
counts_before launched w r = is_before w r || (meets w r && is_late (side_of launched w r))

-- its first tick counts after the edge
abbrev pub counts_after : (Region → Side) → Window → Region → Bool
counts_after launched w r = is_after w r || (meets w r && is_early (side_of launched w r))

-- the regions that meet a window
abbrev pub met : ℕ → Events → Window → List Region
met p ev w = filter (meets w) (regions_from p ev (8 * p) 0)
