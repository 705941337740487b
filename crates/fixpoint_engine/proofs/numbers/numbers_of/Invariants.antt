use Rattle.std.proofs.Common.{◌≡◌, take}
use Rattle.fixpoint_engine.specs.Table.{AreKnown, Grows, waves_at}
use Rattle.fixpoint_engine.proofs.numbers.numbers_of.Given as goal

abbrev pub invariant-loop-wave : goal.invariant-loop-wave
invariant-loop-wave g l = record {
  grows : Grows l.initial.table l.table;
  known : AreKnown l.table l.numbers;
  same : waves_at l.table l.numbers ≡ take l.wave-index l.waves;
}
