use Rattle.std.proofs.Common.{take}
use Rattle.drawing_omissions.specs.Read.{MarksPins}
use Rattle.drawing_omissions.proofs.read.mark.Given as goal

abbrev pub invariant-loop-pin : goal.invariant-loop-pin
invariant-loop-pin l = MarksPins (take l.pin-index l.pins) l.fn.read l.read
