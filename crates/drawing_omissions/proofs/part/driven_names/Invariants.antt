use Rattle.std.proofs.Common.{take}
use Rattle.drawing_omissions.specs.Part.{AreDriven}
use Rattle.drawing_omissions.proofs.part.driven_names.Given as goal

abbrev pub invariant-loop-number : goal.invariant-loop-number
invariant-loop-number l = AreDriven (take l.number l.c.nets) l.names.keys
