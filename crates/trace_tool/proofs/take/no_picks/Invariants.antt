use Rattle.std.proofs.Common.{◌-◌, ◌≤◌, length}
use Rattle.trace_tool.proofs.take.no_picks.Given as goal

abbrev pub invariant-picks : goal.invariant-picks
invariant-picks l = length l.picks ≤ l.count

abbrev pub decreases-picks : goal.decreases-picks
decreases-picks l = l.count - length l.picks
