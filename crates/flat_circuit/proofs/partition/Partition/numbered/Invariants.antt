use Rattle.std.proofs.Common.{◌≡◌, length}
use Rattle.flat_circuit.proofs.partition.Partition.numbered.Given as goal

abbrev pub invariant-loop-net : goal.invariant-loop-net
invariant-loop-net l = length l.numbers ≡ l.net
