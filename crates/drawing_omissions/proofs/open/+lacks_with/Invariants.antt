use Rattle.std.proofs.Common.{length}
use Rattle.drawing_omissions.proofs.open.+lacks_with.Given as goal

abbrev pub decreases-lacks_with : goal.decreases-lacks_with
decreases-lacks_with l = length l.nets.now
