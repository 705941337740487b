use Rattle.std.proofs.Common.{◌≡◌, take}
use Rattle.fixpoint_engine.specs.Table.{AreKnown, Grows, waves_at}
use Rattle.fixpoint_engine.proofs.numbers.renumbered.Given as goal

abbrev pub invariant-loop-number : goal.invariant-loop-number
invariant-loop-number g l = record {
  grows : Grows l.initial.other l.other;
  known : AreKnown l.other l.there;
  same : waves_at l.other l.there ≡ waves_at l.table (take l.number-index l.numbers);
}
