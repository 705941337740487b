use Rattle.std.specs.List.{flat_map, range_with_len}
use Rattle.drawing_notes.specs.Idle.{idle_at}
use Rattle.drawing_omissions.specs.Lines.{Adds}
use Rattle.drawing_notes.proofs.idle.add_idle.Given as goal

abbrev pub invariant-loop-number : goal.invariant-loop-number
invariant-loop-number l = Adds l.fn.notes l.notes (flat_map (idle_at l.c) (range_with_len 0 l.number))
