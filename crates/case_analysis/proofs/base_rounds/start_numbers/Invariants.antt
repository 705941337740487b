use Rattle.std.proofs.Common.{◌≡◌, map}
use Rattle.std.specs.List.{range_with_len}
use Rattle.fixpoint_engine.specs.Table.{AreKnown, Grows, IsNumber, waves_at}
use Rattle.fixpoint_engine.specs.Start.{base_start, unknown_wave}
use Rattle.case_analysis.proofs.base_rounds.start_numbers.Given as goal

abbrev pub invariant-loop-net : goal.invariant-loop-net
invariant-loop-net g l = record {
  grows : Grows l.fn.store l.store;
  unknown : IsNumber l.store (unknown_wave l.c.header) l.unknown;
  known : AreKnown l.store l.numbers;
  begun : waves_at l.store l.numbers ≡ map (base_start l.c) (range_with_len 0 l.net);
}
