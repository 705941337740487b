use Rattle.std.proofs.Common.{◌≡◌, ◌++◌, take}
use Rattle.std.specs.List.{flat_map}
use Rattle.trace_tool.specs.Dump.{declared_text}
use Rattle.trace_tool.proofs.dump.add_variables.Given as goal

abbrev pub invariant-loop-s : goal.invariant-loop-s
invariant-loop-s l = l.out ≡ l.fn.out ++ flat_map (declared_text l.c) (take l.s-index l.all)
