use Rattle.std.proofs.Common.{take}
use Rattle.drawing_omissions.specs.Fors.{AreWhere, is_turned}
use Rattle.drawing_omissions.proofs.fors.turned.Given as goal

abbrev pub invariant-loop-finding : goal.invariant-loop-finding
invariant-loop-finding l = AreWhere is_turned (take l.finding-index l.found) l.spots.keys
