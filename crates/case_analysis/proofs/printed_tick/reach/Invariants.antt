use Rattle.std.proofs.Common.{◌≡◌, ◌≤◌, drop, max}
use Rattle.fixpoint_engine.specs.Reach.{farthest}
use Rattle.case_analysis.proofs.printed_tick.reach.Given as goal

abbrev pub invariant-loop-k : goal.invariant-loop-k
invariant-loop-k l = record {
  is : max l.farthest (farthest l.c.nets (drop l.k l.c.instances)) ≡ farthest l.c.nets l.c.instances;
  bounded : l.farthest ≤ 8190;
}
