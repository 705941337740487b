use Rattle.std.proofs.Common.{length}
use Rattle.trace_tool.proofs.name.+after_slashes.Given as goal

abbrev pub decreases-after_slashes : goal.decreases-after_slashes
decreases-after_slashes l = length l.text.now
