use Rattle.std.proofs.Common.{◌≡◌, ℕ, map, take, length}
use Rattle.fixpoint_engine.specs.Settled.{marked_in}
use Rattle.fixpoint_engine.specs.Worklist.{among}
use Rattle.fixpoint_engine.proofs.rounds.changed_nets.Given as goal

abbrev pub invariant-loop-change : goal.invariant-loop-change
invariant-loop-change l = record {
  long : length l.changed ≡ length l.c.nets;
  are : (i : ℕ) → marked_in l.changed i ≡ among (map (λ ch. ch.net) (take l.change-index l.changes)) i;
}
