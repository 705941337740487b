use Rattle.std.proofs.Common.{◌≡◌, ℕ, ◌&&◌, length, map, take}
use Rattle.flat_circuit.specs.Circuit.{driver}
use Rattle.fixpoint_engine.specs.Settled.{marked_in}
use Rattle.fixpoint_engine.specs.Members.{is_evaluated}
use Rattle.fixpoint_engine.specs.Work.{hears_in}
use Rattle.fixpoint_engine.specs.Worklist.{among}
use Rattle.fixpoint_engine.proofs.queue.Queue.refill.Given as goal

abbrev pub invariant-loop-change : goal.invariant-loop-change
invariant-loop-change l = record {
  each_net : length l.self.marks ≡ length l.c.nets;
  due : (i : ℕ) → marked_in l.self.marks i ≡ (is_evaluated l.active l.classes i && hears_in (among (map (λ ch. ch.net) (take l.change-index l.changes))) (driver l.c i));
}
