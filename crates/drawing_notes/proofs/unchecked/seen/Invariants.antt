use Rattle.std.proofs.Common.{take}
use Rattle.drawing_notes.specs.Unchecked.{AreSeen}
use Rattle.drawing_notes.proofs.unchecked.seen.Given as goal

abbrev pub invariant-loop-number : goal.invariant-loop-number
invariant-loop-number l = AreSeen (take l.number l.c.instances) l.seen.keys
