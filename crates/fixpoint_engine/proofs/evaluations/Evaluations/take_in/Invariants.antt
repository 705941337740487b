use Rattle.std.proofs.Common.{◌≡◌, take}
use Rattle.fixpoint_engine.specs.Table.{AreKnown, Grows, waves_at}
use Rattle.fixpoint_engine.proofs.evaluations.Evaluations.take_in.Given as goal

abbrev pub invariant-loop-number : goal.invariant-loop-number
invariant-loop-number g l = record {
  grows : Grows l.initial.self l.self;
  known : AreKnown l.self l.here;
  same : waves_at l.self l.here ≡ waves_at l.table (take l.number-index l.numbers);
}
