use Rattle.std.proofs.Common.{false}
use Rattle.fixpoint_engine.specs.Waves.{waves_of}
use Rattle.drawing_notes.specs.Parts.{together}
use Rattle.drawing_notes.specs.Passing.{is_passable}
use Rattle.drawing_notes.specs.Paths.{is_looped}
use Rattle.drawing_notes.proofs.Marking.{chosen}
use Rattle.drawing_notes.proofs.Stepped.{SteppedTo}
use Rattle.drawing_notes.proofs.held.passable.Given as goal

abbrev pub invariant-loop-net : goal.invariant-loop-net
invariant-loop-net g l =
    SteppedTo false (chosen (is_passable l.c (is_looped (together l.parts)) (waves_of l.waves))) l.initial.set l.net l.set
