use Rattle.std.specs.List.{flat_map, range_with_len}
use Rattle.drawing_notes.specs.Arrivals.{arrival_at}
use Rattle.drawing_notes.specs.Late.{late_at}
use Rattle.drawing_omissions.specs.Lines.{Adds}
use Rattle.drawing_notes.proofs.late.add_late.Given as goal

abbrev pub invariant-loop-number : goal.invariant-loop-number
invariant-loop-number l = Adds l.fn.notes l.notes (flat_map (late_at l.c (arrival_at l.arrivals)) (range_with_len 0 l.number))
