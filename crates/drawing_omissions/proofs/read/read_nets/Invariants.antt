use Rattle.std.proofs.Common.{length}
use Rattle.drawing_omissions.proofs.Reading.{ReadTo}
use Rattle.drawing_omissions.proofs.read.read_nets.Given as goal

abbrev pub invariant-loop-number : goal.invariant-loop-number
invariant-loop-number l = ReadTo l.c.instances (length l.c.nets) l.number l.read
