use Rattle.std.proofs.Common.{take}
use Rattle.drawing_notes.proofs.Knowing.{Settles}
use Rattle.drawing_notes.proofs.loops.settle.Given as goal

abbrev pub invariant-loop-net : goal.invariant-loop-net
invariant-loop-net l = Settles (take l.net-index l.nets) l.part l.fn.fresh l.fresh l.fn.parts l.parts
