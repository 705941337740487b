use Rattle.std.proofs.Common.{false}
use Rattle.drawing_notes.specs.Unmarked.{is_gated}
use Rattle.drawing_notes.proofs.Marking.{chosen}
use Rattle.drawing_notes.proofs.Stepped.{SteppedTo}
use Rattle.drawing_notes.proofs.clocks.gated.Given as goal

abbrev pub invariant-loop-net : goal.invariant-loop-net
invariant-loop-net l = SteppedTo false (chosen (is_gated l.c)) l.initial.set l.net l.set
