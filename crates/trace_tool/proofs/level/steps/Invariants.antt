use Rattle.std.proofs.Common.{◌≡◌, ◌-◌, ◌≤◌}
use Rattle.trace_tool.specs.Change.{change, steps}
use Rattle.trace_tool.proofs.level.steps.Given as goal

abbrev pub invariant-loop-left : goal.invariant-loop-left
invariant-loop-left l = record {
  same : change l.c l.rows l.tick l.s.from l.left ≡ steps l.c l.rows l.tick l.s;
  within : l.left ≤ l.s.to - l.s.from;
}

abbrev pub decreases-loop-left : goal.decreases-loop-left
decreases-loop-left l = l.left
