use Rattle.std.proofs.Common.{◌≡◌, drop}
use Rattle.std.specs.List.{list_all}
use Rattle.trace_sim.proofs.gates.all_ones.Given as goal

abbrev pub invariant-loop-bit : goal.invariant-loop-bit
invariant-loop-bit l = list_all (λ b. b) (drop l.bit-index l.bits) ≡ list_all (λ b. b) l.bits
