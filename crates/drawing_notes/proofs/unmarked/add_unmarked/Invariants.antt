use Rattle.std.specs.List.{flat_map, range_with_len}
use Rattle.drawing_omissions.specs.Lines.{Adds}
use Rattle.drawing_notes.specs.Unmarked.{first_at, unmarked_at}
use Rattle.drawing_notes.proofs.unmarked.add_unmarked.Given as goal

abbrev pub invariant-loop-number : goal.invariant-loop-number
invariant-loop-number l = Adds l.fn.notes l.notes (flat_map (unmarked_at l.c (first_at l.firsts)) (range_with_len 0 l.number))
