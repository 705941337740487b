use Rattle.std.proofs.Common.{◌≡◌, ◌<◌, drop, max}
use Rattle.fixpoint_engine.specs.Reach.{greatest_wire}
use Rattle.run_clauses.proofs.driven.longest_wire.Given as goal

abbrev pub invariant-loop-pin : goal.invariant-loop-pin
invariant-loop-pin l = record {
  is : max l.longest (greatest_wire l.c.nets (drop l.pin-index l.pins)) ≡ greatest_wire l.c.nets
      l.pins;
  few : l.longest < 65536;
}
