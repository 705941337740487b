use Rattle.std.proofs.Common.{◌≡◌, ◌<◌, All, ℕ, take}
use Rattle.flat_circuit.specs.declared.case.CaseValue.{CaseValue}
use Rattle.trace_sim.specs.Simulated.{bit_of}
use Rattle.fault_decider.proofs.showing.is_in_case.Given as goal

abbrev pub invariant-loop-value : goal.invariant-loop-value
invariant-loop-value l =
    All (λ (v : CaseValue). (t : ℕ) → t < l.ticks → bit_of l.bits v.net t ≡ v.one) (take l.value-index l.values)
