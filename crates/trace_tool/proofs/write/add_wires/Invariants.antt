use Rattle.std.proofs.Common.{◌≡◌, ◌++◌, take}
use Rattle.trace_tool.specs.Trace.{wires_text}
use Rattle.trace_tool.proofs.write.add_wires.Given as goal

abbrev pub invariant-loop-wire : goal.invariant-loop-wire
invariant-loop-wire l = l.out ≡ l.fn.out ++ wires_text (take l.wire-index l.wires)
