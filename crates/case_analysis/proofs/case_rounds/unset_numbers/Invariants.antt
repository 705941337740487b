use Rattle.std.proofs.Common.{◌≡◌, ◌<◌, List, [], length, map}
use Rattle.std.specs.List.{range_with_len}
use Rattle.step_values.specs.declared.value.Value.{Value}
use Rattle.skew_algebra.specs.Wave.{Wave}
use Rattle.fixpoint_engine.specs.Table.{AreKnown, IsNumber, waves_at}
use Rattle.fixpoint_engine.specs.Waves.{waves_of}
use Rattle.fixpoint_engine.specs.Settled.{marked_in}
use Rattle.fixpoint_engine.specs.Start.{unknown_wave}
use Rattle.case_analysis.specs.Case.{case_start}
use Rattle.case_analysis.proofs.case_rounds.unset_numbers.Given as goal

abbrev pub invariant-loop-net : goal.invariant-loop-net
invariant-loop-net l = record {
  known : (table : List (Wave Value)) → AreKnown table l.before → l.unknown < length table → AreKnown table l.numbers;
  is : (table : List (Wave Value)) → IsNumber table (unknown_wave l.c.header) l.unknown →
      waves_at table l.numbers ≡ map (case_start l.c [] (marked_in l.cone) (waves_of (waves_at table l.before))) (range_with_len 0 l.net);
  long : length l.numbers ≡ l.net;
}
