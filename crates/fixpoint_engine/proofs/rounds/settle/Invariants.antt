use Rattle.std.proofs.Common.{◌≡◌, ◌-◌, ◌≤◌, length}
use Rattle.fixpoint_engine.specs.Table.{AreKnown, Grows, waves_at}
use Rattle.fixpoint_engine.specs.Waves.{waves_of}
use Rattle.fixpoint_engine.specs.Key.{AreConstants}
use Rattle.fixpoint_engine.specs.Settled.{marked_in}
use Rattle.fixpoint_engine.specs.Members.{numbers_in}
use Rattle.fixpoint_engine.proofs.Kept.{Kept}
use Rattle.fixpoint_engine.proofs.rounds.settle.Given as goal

-- The waves that the table had when rounds began, the constants among them, stay its first ones.
abbrev pub invariant-rounds : goal.invariant-rounds
invariant-rounds g l = record {
  grows : Grows l.initial.store l.store;
  counted : l.kept ≡ length l.initial.store;
  constants : AreConstants l.c.header l.initial.store l.start.constants;
  known : AreKnown l.store l.numbers;
  kept : Kept l.c (marked_in l.start.active) (numbers_in (length l.c.nets) l.classes.nets)
      (waves_of (waves_at l.initial.store l.start.numbers))
      (waves_at l.store l.numbers) l.queue l.rounds l.evals;
  within : l.rounds ≤ l.limit;
}

abbrev pub decreases-rounds : goal.decreases-rounds
decreases-rounds g l = l.limit - l.rounds
