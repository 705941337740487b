use Rattle.std.proofs.Common.{◌-◌, length}
use Rattle.fixpoint_engine.specs.Settled.{marked_in}
use Rattle.fixpoint_engine.specs.Waves.{waves_of}
use Rattle.drawing_notes.specs.Paths.{leads_in}
use Rattle.drawing_notes.proofs.Closing.{Closing}
use Rattle.drawing_notes.proofs.found.Found.follow_open.Given as goal

abbrev pub invariant-nets : goal.invariant-nets
invariant-nets g l =
    Closing (leads_in l.view.circuit.now (waves_of l.view.waves.now)) (marked_in l.view.within.now) (marked_in l.initial.self.marks) (length l.view.circuit.now.nets)
    l.self l.next

abbrev pub decreases-nets : goal.decreases-nets
decreases-nets g l = length l.view.circuit.now.nets - l.next
