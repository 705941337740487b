use Rattle.std.proofs.Common.{◌-◌, length}
use Rattle.fixpoint_engine.specs.Settled.{marked_in}
use Rattle.drawing_notes.specs.Paths.{leads}
use Rattle.drawing_notes.proofs.Closing.{Closing}
use Rattle.drawing_notes.proofs.found.Found.follow.Given as goal

abbrev pub invariant-nets : goal.invariant-nets
invariant-nets l = Closing (leads l.c) (marked_in l.within) (marked_in l.initial.self.marks) (length l.c.nets) l.self l.next

abbrev pub decreases-nets : goal.decreases-nets
decreases-nets l = length l.c.nets - l.next
