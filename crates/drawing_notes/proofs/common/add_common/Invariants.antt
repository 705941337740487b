use Rattle.std.specs.List.{flat_map, range_with_len}
use Rattle.drawing_omissions.specs.Lines.{Adds}
use Rattle.drawing_notes.specs.Common.{common_at, skew_at}
use Rattle.drawing_notes.proofs.common.add_common.Given as goal

abbrev pub invariant-loop-number : goal.invariant-loop-number
invariant-loop-number l = Adds l.fn.notes l.notes (flat_map (common_at l.c (skew_at l.ticks)) (range_with_len 0 l.number))
