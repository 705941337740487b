use Rattle.std.proofs.Common.{◌≡◌, take}
use Rattle.element_kinds.specs.Equation.{number_of_bits}
use Rattle.trace_sim.proofs.gates.number.Given as goal

abbrev pub invariant-loop-bit : goal.invariant-loop-bit
invariant-loop-bit l = l.number ≡ number_of_bits (take l.bit-index l.bits)
