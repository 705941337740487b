use Rattle.std.proofs.Common.{◌≡◌, ◌+◌, drop}
use Rattle.flat_circuit.specs.Instances.{outputs}
use Rattle.case_analysis.proofs.base_rounds.default_limit.Given as goal

abbrev pub invariant-loop-k : goal.invariant-loop-k
invariant-loop-k l = l.outputs + outputs (drop l.k l.c.instances) ≡ outputs l.c.instances
