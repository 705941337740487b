-- Events: the ticks at which a net may make a step of some direction. A slot of the period stands
-- for each tick that lies whole periods after it, so events are read round the period.
use Rattle.std.specs.Prelude.{ℕ, ◌+◌, ◌-◌, ◌==◌, Bool, true, false, not, ◌&&◌, ◌||◌, if◌then◌else◌, Option, Some, None}
use Rattle.step_values.specs.declared.value.Value.{Value}
use Rattle.step_values.specs.Steps.{Steps, has}
use Rattle.critical_paths.specs.declared.direction.Corner.{Corner}
use Rattle.critical_paths.specs.declared.direction.Corner.TheVariants.{Late, Early}
use Rattle.critical_paths.specs.declared.direction.Direction.{Direction}
use Rattle.critical_paths.specs.declared.direction.Direction.TheVariants.{Rise, Fall, Change}

-- the other end of a region
abbrev pub other_corner : Corner → Corner
other_corner Late = Early
other_corner Early = Late

-- ---- directions

-- some of these steps is of the direction
abbrev pub moves : Direction → Steps → Bool
moves Rise steps = steps false true
moves Fall steps = steps true false
moves Change steps = steps false true || steps true false

-- the steps of a direction
abbrev pub steps_of : Direction → Steps
steps_of Rise before after = not before && after
steps_of Fall before after = before && not after
steps_of Change before after = (not before && after) || (before && not after)

-- the direction that rises and falls, each if it is said, make together
abbrev pub direction_by : Bool → Bool → Option Direction
direction_by true true = Some Change
direction_by true false = Some Rise
direction_by false true = Some Fall
direction_by false false = None

-- that of a set of steps, if it changes anything
abbrev pub direction_of : Steps → Option Direction
direction_of steps = direction_by (steps false true) (steps true false)

-- that of the complement
abbrev pub opposite : Direction → Direction
opposite Rise = Fall
opposite Fall = Rise
opposite Change = Change

abbrev pub turned : Bool → Direction → Direction
turned inverted direction = if inverted then opposite direction else direction

-- it has one kind of step
abbrev pub is_step : Direction → Bool
is_step Rise = true
is_step Fall = true
is_step Change = false

abbrev pub same_direction : Direction → Direction → Bool
same_direction Rise Rise = true
same_direction Fall Fall = true
same_direction Change Change = true
same_direction a b = false

-- a net may make a step of the direction in the slot
pub record Event : Type 0 where
  pub net : ℕ
  pub direction : Direction
  pub slot : ℕ

-- the same event
abbrev pub same_event : Event → Event → Bool
same_event a b = (a.net == b.net) && ((a.slot == b.slot) && same_direction a.direction b.direction)

-- ---- events

abbrev pub Events : Type 0
Events = ℕ → Bool

-- the events of what may be in each slot
abbrev pub events : Direction → (ℕ → Value) → Events
events direction folds t = moves direction (has (folds t))

-- the tick is one of them, and the next is not
abbrev pub is_last : Events → ℕ → Bool
is_last ev t = ev t && not (ev (t + 1))

-- the tick is one of them, and the one before is not, which is p - 1 ticks on in a period of p
abbrev pub is_first : ℕ → Events → ℕ → Bool
is_first p ev t = ev t && not (ev (t + (p - 1)))

-- the tick beside one, away from the region that ends there
abbrev pub beside : ℕ → Corner → ℕ → ℕ
beside p Late t = t + 1
beside p Early t = t + (p - 1)
