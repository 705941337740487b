use Rattle.std.proofs.Common.{take}
use Rattle.std.specs.List.{flat_map}
use Rattle.drawing_omissions.specs.Lines.{Adds}
use Rattle.drawing_notes.specs.Unread.{unread_at}
use Rattle.drawing_notes.proofs.unread.add_unread.Given as goal

abbrev pub invariant-loop-place : goal.invariant-loop-place
invariant-loop-place l = Adds l.fn.notes l.notes (flat_map (unread_at l.c) (take l.place l.c.order))
