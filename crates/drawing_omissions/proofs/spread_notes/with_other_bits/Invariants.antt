use Rattle.std.proofs.Common.{take}
use Rattle.drawing_omissions.specs.Spread.{AreNames}
use Rattle.drawing_omissions.proofs.spread_notes.with_other_bits.Given as goal

abbrev pub invariant-loop-number : goal.invariant-loop-number
invariant-loop-number l = AreNames (take l.number l.c.nets) l.names.keys
