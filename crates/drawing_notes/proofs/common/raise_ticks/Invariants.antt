use Rattle.drawing_notes.specs.Common.{skew_at}
use Rattle.drawing_notes.proofs.Raising.{more_ticks}
use Rattle.drawing_notes.proofs.Stepped.{SteppedTo}
use Rattle.drawing_notes.proofs.common.raise_ticks.Given as goal

abbrev pub invariant-loop-number : goal.invariant-loop-number
invariant-loop-number g l =
    SteppedTo 0 (more_ticks l.view.circuit.now (skew_at l.skews.items) l.common.items) l.fn.ticks l.number l.ticks
