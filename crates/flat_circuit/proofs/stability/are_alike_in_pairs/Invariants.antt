use Rattle.std.proofs.Common.{◌<◌, ℕ}
use Rattle.flat_circuit.specs.Stable.{AreAlikeBefore}
use Rattle.flat_circuit.proofs.stability.are_alike_in_pairs.Given as goal

abbrev pub invariant-loop-net : goal.invariant-loop-net
invariant-loop-net l = (i : ℕ) → i < l.net → AreAlikeBefore l.c l.cases l.classes i
