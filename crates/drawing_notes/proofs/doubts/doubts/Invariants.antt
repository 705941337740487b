use Rattle.drawing_notes.specs.Common.{skew_at}
use Rattle.drawing_notes.proofs.Doubting.{DoubtsTo}
use Rattle.drawing_notes.proofs.doubts.doubts.Given as goal

abbrev pub invariant-loop-number : goal.invariant-loop-number
invariant-loop-number l = DoubtsTo l.c (skew_at l.skews) l.number l.doubts.items
