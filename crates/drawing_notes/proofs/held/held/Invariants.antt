use Rattle.std.proofs.Common.{false, slice_get}
use Rattle.fixpoint_engine.specs.Waves.{waves_of}
use Rattle.drawing_notes.specs.Passing.{keeps_at}
use Rattle.drawing_notes.proofs.Marking.{chosen}
use Rattle.drawing_notes.proofs.Stepped.{SteppedTo}
use Rattle.drawing_notes.proofs.held.held.Given as goal

abbrev pub invariant-loop-number : goal.invariant-loop-number
invariant-loop-number g l =
    SteppedTo false (chosen (λ k. keeps_at l.c (waves_of l.waves) (slice_get l.c.instances k))) l.initial.set l.number l.set
