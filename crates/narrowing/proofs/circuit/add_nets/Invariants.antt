use Rattle.std.proofs.Common.{◌≡◌, ◌≤◌, [], length}
use Rattle.narrowing.proofs.circuit.add_nets.Given as goal

abbrev pub invariant-loop-number : goal.invariant-loop-number
invariant-loop-number l = record {
  header : l.builder.header ≡ l.fine;
  instances : l.builder.instances ≡ [];
  long : l.number ≤ length l.builder.names;
}
