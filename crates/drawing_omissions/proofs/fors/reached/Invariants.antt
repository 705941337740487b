use Rattle.std.proofs.Common.{take}
use Rattle.drawing_omissions.specs.Fors.{AreWhere, is_reached}
use Rattle.drawing_omissions.proofs.fors.reached.Given as goal

abbrev pub invariant-loop-finding : goal.invariant-loop-finding
invariant-loop-finding l = AreWhere is_reached (take l.finding-index l.found) l.spots.keys
