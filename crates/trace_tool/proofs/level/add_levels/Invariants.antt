use Rattle.std.proofs.Common.{◌≡◌, ◌-◌, ◌≤◌, ◌++◌}
use Rattle.std.specs.List.{flat_map}
use Rattle.trace_tool.specs.Change.{digit_text, levels}
use Rattle.trace_tool.proofs.level.add_levels.Given as goal

abbrev pub invariant-loop-left : goal.invariant-loop-left
invariant-loop-left l = record {
  all : l.out ++ flat_map digit_text (levels l.c l.rows l.tick l.s.from l.left)
      ≡ l.fn.out ++ flat_map digit_text (levels l.c l.rows l.tick l.s.from (l.s.to - l.s.from));
  within : l.left ≤ l.s.to - l.s.from;
}

abbrev pub decreases-loop-left : goal.decreases-loop-left
decreases-loop-left l = l.left
