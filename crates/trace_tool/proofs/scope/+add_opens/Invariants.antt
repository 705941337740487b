use Rattle.std.proofs.Common.{length}
use Rattle.trace_tool.proofs.scope.+add_opens.Given as goal

abbrev pub decreases-add_opens : goal.decreases-add_opens
decreases-add_opens l = length l.name.now
