use Rattle.std.proofs.Common.{◌≡◌, ◌<◌, ◌≤◌, ℕ, length, false}
use Rattle.fixpoint_engine.specs.Settled.{marked_in}
use Rattle.fixpoint_engine.specs.Members.{is_evaluated}
use Rattle.fixpoint_engine.proofs.queue.Queue.all.Given as goal

abbrev pub invariant-loop-net : goal.invariant-loop-net
invariant-loop-net l = record {
  each_net : length l.queue.marks ≡ length l.c.nets;
  before : (i : ℕ) → i < l.net → marked_in l.queue.marks i ≡ is_evaluated l.active l.classes i;
  after : (i : ℕ) → l.net ≤ i → marked_in l.queue.marks i ≡ false;
}
