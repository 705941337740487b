use Rattle.std.specs.Prelude.{nat_lt, ◌&&◌}
use Rattle.std.proofs.Common.{◌≡◌, ◌||◌, ℕ, length, take}
use Rattle.fixpoint_engine.specs.Settled.{marked_in}
use Rattle.fixpoint_engine.specs.Worklist.{among}
use Rattle.narrowing.proofs.cone.Found.add_firsts.Given as goal

abbrev pub invariant-loop-net : goal.invariant-loop-net
invariant-loop-net l = record {
  each_net : length l.self.marks ≡ length l.c.nets;
  marks : (i : ℕ) → marked_in l.self.marks i
      ≡ (marked_in l.initial.self.marks i
      || (nat_lt i (length l.c.nets) && among (take l.net-index l.nets) i));
}
