use Rattle.std.proofs.Common.{◌≤◌, length, drop}
use Rattle.macro_expander.specs.Places.{LeadTo}
use Rattle.macro_expander.proofs.places.all_places.Given as goal

abbrev pub decreases-loop-place : goal.decreases-loop-place
decreases-loop-place g l = l.place

abbrev pub invariant-loop-place : goal.invariant-loop-place
invariant-loop-place g l = record { within : l.place ≤ length l.items; leads : LeadTo g.T.Called.name l.places.entries l.items (drop l.place l.items) }
