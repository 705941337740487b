use Rattle.std.proofs.Common.{◌≡◌, ◌++◌, take}
use Rattle.std.specs.List.{flat_map}
use Rattle.trace_tool.specs.Trace.{digit_text}
use Rattle.trace_tool.proofs.write.add_digits.Given as goal

abbrev pub invariant-loop-bit : goal.invariant-loop-bit
invariant-loop-bit l = l.out ≡ l.fn.out ++ flat_map digit_text (take l.bit-index l.row)
