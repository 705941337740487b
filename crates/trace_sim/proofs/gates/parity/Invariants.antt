use Rattle.std.proofs.Common.{◌≡◌, drop}
use Rattle.scald_base.specs.Signal.{turned}
use Rattle.element_kinds.specs.Equation.{parity}
use Rattle.trace_sim.proofs.gates.parity.Given as goal

abbrev pub invariant-loop-bit : goal.invariant-loop-bit
invariant-loop-bit l = turned l.odd (parity (drop l.bit-index l.bits)) ≡ parity l.bits
