use Rattle.std.proofs.Common.{◌≡◌, ◌≤◌, length, take}
use Rattle.narrowing.specs.Narrowed.{fine_header, narrowed_from}
use Rattle.narrowing.proofs.circuit.add_instances.Given as goal

abbrev pub invariant-loop-k : goal.invariant-loop-k
invariant-loop-k l = record {
  header : l.builder.header ≡ fine_header l.c.header;
  long : length l.c.nets ≤ length l.builder.names;
  are : l.builder.instances ≡ narrowed_from l.parts 0 (take l.k l.c.instances);
}
