use Rattle.std.proofs.Common.{◌≡◌, ◌++◌, take}
use Rattle.trace_tool.specs.Variable.{word}
use Rattle.trace_tool.proofs.reference.add_word.Given as goal

abbrev pub invariant-loop-byte : goal.invariant-loop-byte
invariant-loop-byte l = l.out ≡ l.fn.out ++ word (take l.byte-index l.name)
