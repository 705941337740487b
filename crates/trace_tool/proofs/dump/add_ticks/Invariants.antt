use Rattle.std.proofs.Common.{◌≡◌, ◌-◌, ◌++◌}
use Rattle.trace_tool.specs.Change.{later_commands}
use Rattle.trace_tool.specs.Dump.{texts}
use Rattle.trace_tool.proofs.dump.add_ticks.Given as goal

-- what is written, and what the ticks from here on have, are all
abbrev pub invariant-loop-tick : goal.invariant-loop-tick
invariant-loop-tick l =
    l.out ++ texts (later_commands l.c l.rows l.all l.tick (l.ticks - l.tick))
    ≡ l.fn.out ++ texts (later_commands l.c l.rows l.all 1 (l.ticks - 1))
