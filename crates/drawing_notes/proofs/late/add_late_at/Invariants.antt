use Rattle.std.proofs.Common.{slice_get}
use Rattle.std.specs.List.{flat_map, range_with_len}
use Rattle.drawing_notes.specs.Arrivals.{arrival_at}
use Rattle.drawing_notes.specs.Late.{late_on}
use Rattle.drawing_notes.specs.Pins.{pin_net}
use Rattle.drawing_omissions.specs.Lines.{Adds}
use Rattle.drawing_notes.proofs.late.add_late_at.Given as goal

abbrev pub invariant-loop-place : goal.invariant-loop-place
invariant-loop-place l =
    Adds l.fn.notes l.notes (flat_map (λ place. late_on l.c (arrival_at l.arrivals) l.number place (pin_net (slice_get l.instance.pins place))) (range_with_len 0 l.place))
