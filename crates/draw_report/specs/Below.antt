-- Which nets are shown if only those below a path are asked for, and what they leave of rows.
use Rattle.std.specs.Prelude.{ℕ, ◌+◌, ◌-◌, ◌<◌, Bool, true, List, length, take, Option, Some, None}
use Rattle.std.specs.List.{All, filter, flat_map, list_any, range_with_len}
use mathlib.Core.Bool.{beq}
use Rattle.std.specs.Str.{bytes_eq}
use Rattle.flat_circuit.specs.Name.{net_at}
use Rattle.flat_circuit.specs.Circuit.{Circuit}
use Rattle.listing.specs.Names.{net_text}
use Rattle.draw_report.specs.declared.row.Row.{Row}
use Rattle.draw_report.specs.Row.{cut}

-- ---- nets

abbrev pub begins_with : List ℕ → List ℕ → Bool
begins_with front text = bytes_eq front (take (length front) text)

-- the text of the net at a place in name order begins with the path
abbrev pub is_below : Circuit → List ℕ → ℕ → Bool
is_below c path place = begins_with path (net_text c (net_at c.order place))

-- some net is below the path, or none is asked for
abbrev pub has_below : Circuit → Option (List ℕ) → Bool
has_below c None = true
has_below c (Some path) = list_any (is_below c path) (range_with_len 0 (length c.nets))

-- ---- rows

-- the net at a place is below the path where the one before it is
abbrev pub is_like_last : Circuit → List ℕ → ℕ → Bool
is_like_last c path place = beq (is_below c path (place - 1)) (is_below c path place)

-- a row, cut where nets below the path and others meet
abbrev pub parts : Circuit → List ℕ → Row → List Row
parts c path r = cut (is_like_last c path) r.from (r.from + 1) (r.to - (r.from + 1))

abbrev pub is_row_below : Circuit → List ℕ → Row → Bool
is_row_below c path r = is_below c path r.from

-- What is shown of rows: their nets below the path, side by side as before; all of them if no path
-- is asked for.
abbrev pub rows_below : Circuit → Option (List ℕ) → List Row → List Row
rows_below c None rs = rs
rows_below c (Some path) rs = filter (is_row_below c path) (flat_map (parts c path) rs)

-- each row has a net
abbrev pub HaveNets : List Row → Type 0
HaveNets rs = All (λ (r : Row). r.from < r.to) rs
