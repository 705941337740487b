use Rattle.std.proofs.Common.{take}
use Rattle.std.specs.List.{flat_map}
use Rattle.drawing_omissions.specs.Lines.{Adds}
use Rattle.drawing_omissions.specs.Spread.{spread_at}
use Rattle.drawing_omissions.proofs.spread_notes.add_spread.Given as goal

abbrev pub invariant-loop-finding : goal.invariant-loop-finding
invariant-loop-finding l = Adds l.fn.notes l.notes (flat_map (spread_at l.c) (take l.finding-index l.found))
