use Rattle.drawing_notes.proofs.Raising.{raised}
use Rattle.drawing_notes.proofs.Stepped.{SteppedTo}
use Rattle.drawing_notes.proofs.skews.add_skews.Given as goal

abbrev pub invariant-loop-net : goal.invariant-loop-net
invariant-loop-net g l = SteppedTo 0 (raised l.waves) l.fn.skews l.net l.skews
