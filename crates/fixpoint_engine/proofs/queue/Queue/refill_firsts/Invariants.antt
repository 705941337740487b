use Rattle.std.proofs.Common.{◌≡◌, ℕ, ◌&&◌, length, map, take, Some}
use Rattle.flat_circuit.specs.Circuit.{driver}
use Rattle.fixpoint_engine.specs.Settled.{marked_in}
use Rattle.fixpoint_engine.specs.Members.{is_evaluated, is_with}
use Rattle.fixpoint_engine.specs.Work.{hears_in}
use Rattle.fixpoint_engine.proofs.queue.Queue.refill_firsts.Given as goal

abbrev pub invariant-loop-change : goal.invariant-loop-change
invariant-loop-change l = record {
  each_net : length l.self.marks ≡ length l.classes;
  due : (i : ℕ) → marked_in l.self.marks i ≡ (is_evaluated l.active (Some l.classes) i && hears_in (is_with l.classes (map (λ ch. ch.net) (take l.change-index l.changes))) (driver l.c i));
}
