use Rattle.std.proofs.Common.{◌≡◌, ℕ, length, take}
use Rattle.fixpoint_engine.specs.Table.{AreKnown, Grows, waves_at}
use Rattle.fixpoint_engine.specs.Waves.{waves_of}
use Rattle.case_analysis.specs.Case.{is_set}
use Rattle.section_compose.specs.Evaluated.{start_with}
use Rattle.section_compose.proofs.evaluated.section_start.Given as goal

abbrev pub invariant-loop-value : goal.invariant-loop-value
invariant-loop-value g l = record {
  grows : Grows l.fn.store l.store;
  each_net : length l.numbers ≡ length l.c.nets;
  known : AreKnown l.store l.numbers;
  is : (i : ℕ) → waves_of (waves_at l.store l.numbers) i ≡ start_with l.c (is_set (take l.value-index l.case)) i;
}
