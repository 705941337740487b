use Rattle.std.proofs.Common.{◌≡◌, drop}
use Rattle.flat_circuit.specs.Alike.{value_after, value_in}
use Rattle.trace_sim.proofs.seed.value_in.Given as goal

abbrev pub invariant-loop-value : goal.invariant-loop-value
invariant-loop-value l = value_after l.found (drop l.value-index l.values) l.net ≡ value_in l.values l.net
