use Rattle.std.proofs.Common.{length}
use Rattle.trace_tool.proofs.scope.+add_closes.Given as goal

abbrev pub decreases-add_closes : goal.decreases-add_closes
decreases-add_closes l = length l.name.now
