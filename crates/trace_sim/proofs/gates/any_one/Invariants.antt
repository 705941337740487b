use Rattle.std.proofs.Common.{◌≡◌, drop}
use Rattle.std.specs.List.{list_any}
use Rattle.trace_sim.proofs.gates.any_one.Given as goal

abbrev pub invariant-loop-bit : goal.invariant-loop-bit
invariant-loop-bit l = list_any (λ b. b) (drop l.bit-index l.bits) ≡ list_any (λ b. b) l.bits
