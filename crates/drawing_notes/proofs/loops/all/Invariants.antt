use Rattle.std.proofs.Common.{◌≡◌, ℕ, ◌<◌, true, length}
use Rattle.fixpoint_engine.specs.Settled.{marked_in}
use Rattle.drawing_notes.proofs.loops.all.Given as goal

abbrev pub invariant-loop-net : goal.invariant-loop-net
invariant-loop-net l = record {
  each_net : length l.set ≡ length l.c.nets;
  before : (i : ℕ) → i < l.net → marked_in l.set i ≡ true;
}
