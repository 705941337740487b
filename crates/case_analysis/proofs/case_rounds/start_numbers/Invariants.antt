use Rattle.std.proofs.Common.{◌≡◌, ℕ, length, take}
use Rattle.fixpoint_engine.specs.Table.{AreKnown, waves_at}
use Rattle.fixpoint_engine.specs.Waves.{waves_of}
use Rattle.fixpoint_engine.specs.Settled.{marked_in}
use Rattle.case_analysis.specs.Case.{case_start}
use Rattle.case_analysis.proofs.case_rounds.start_numbers.Given as goal

abbrev pub invariant-loop-value : goal.invariant-loop-value
invariant-loop-value g l = record {
  each_net : length l.numbers ≡ length l.c.nets;
  known : AreKnown l.store l.numbers;
  is : (i : ℕ) → waves_of (waves_at l.store l.numbers) i
      ≡ case_start l.c (take l.value-index l.case) (marked_in l.cone) (waves_of (waves_at l.fn.store l.before)) i;
}
