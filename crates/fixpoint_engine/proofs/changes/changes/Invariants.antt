use Rattle.std.proofs.Common.{◌≡◌, map, take}
use Rattle.fixpoint_engine.specs.Table.{AreKnown, Grows, wave_at, waves_at}
use Rattle.fixpoint_engine.specs.Waves.{waves_of}
use Rattle.fixpoint_engine.specs.Worklist.{changes_of}
use Rattle.fixpoint_engine.proofs.changes.changes.Given as goal

abbrev pub invariant-loop-net : goal.invariant-loop-net
invariant-loop-net g l = record {
  grows : Grows l.initial.store l.store;
  known : AreKnown l.store (map (λ ch. ch.number) l.made.items);
  made : map (λ ch. (ch.net, wave_at l.store ch.number)) l.made.items
      ≡ changes_of l.c (waves_of (waves_at l.initial.store l.numbers)) (take l.net-index l.nets);
}
