use Rattle.std.proofs.Common.{◌≡◌, List, length, map, take}
use Rattle.step_values.specs.declared.value.Value.{Value}
use Rattle.skew_algebra.specs.Wave.{Wave}
use Rattle.fixpoint_engine.specs.Table.{AreKnown, wave_at, waves_at}
use Rattle.fixpoint_engine.specs.Members.{for_classes}
use Rattle.fixpoint_engine.specs.Worklist.{changed}
use Rattle.fixpoint_engine.proofs.changes.apply_classes.Given as goal

abbrev pub invariant-loop-change : goal.invariant-loop-change
invariant-loop-change l = record {
  long : length l.numbers ≡ length l.initial.numbers;
  known : (table : List (Wave Value)) → AreKnown table l.initial.numbers → AreKnown table (map (λ ch. ch.number) l.changes) → AreKnown table l.numbers;
  changed : (table : List (Wave Value)) → waves_at table l.numbers
      ≡ changed (waves_at table l.initial.numbers) (for_classes l.classes (map (λ ch. (ch.net, wave_at table ch.number)) (take l.change-index l.changes)));
}
