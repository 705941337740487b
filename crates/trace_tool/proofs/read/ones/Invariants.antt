use Rattle.std.proofs.Common.{◌≡◌, ◌==◌, map, take}
use Rattle.trace_tool.proofs.read.ones.Given as goal

abbrev pub invariant-loop-byte : goal.invariant-loop-byte
invariant-loop-byte l = l.row ≡ map (λ b. b == 49) (take l.byte-index l.text)
