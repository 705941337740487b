use Rattle.std.proofs.Common.{◌≡◌, ◌++◌, drop}
use Rattle.trace_tool.specs.Scan.{numbers_after, numbers_of}
use Rattle.trace_tool.proofs.scan.numbers.Given as goal

abbrev pub invariant-loop-byte : goal.invariant-loop-byte
invariant-loop-byte l = numbers_of l.text ≡ l.found ++ numbers_after l.begun (drop l.byte-index l.text)
