use Rattle.std.proofs.Common.{◌≡◌, ◌≤◌, take}
use Rattle.flat_circuit.specs.Instances.{outputs}
use Rattle.listing.proofs.count.output_count.Given as goal

abbrev pub invariant-loop-k : goal.invariant-loop-k
invariant-loop-k l = record {
  counted : l.count ≡ outputs (take l.k l.c.instances);
  few : l.count ≤ l.k;
}
