use Rattle.std.proofs.Common.{◌≡◌, ◌<◌, ℕ, List, length, map, Some}
use Rattle.step_values.specs.declared.value.Value.{Value}
use Rattle.skew_algebra.specs.Wave.{Wave}
use Rattle.flat_circuit.specs.Alike.{class_of}
use Rattle.fixpoint_engine.specs.Table.{AreKnown, wave_at, waves_at}
use Rattle.fixpoint_engine.specs.Members.{members_below, for_class}
use Rattle.fixpoint_engine.specs.Worklist.{changed}
use Rattle.fixpoint_engine.proofs.Members.{above}
use Rattle.fixpoint_engine.proofs.changes.apply_class.Given as goal

abbrev pub invariant-loop-at : goal.invariant-loop-at
invariant-loop-at l = record {
  long : length l.numbers ≡ length l.initial.numbers;
  known : (table : List (Wave Value)) → AreKnown table l.initial.numbers → l.change.number < length table → AreKnown table l.numbers;
  changed : (table : List (Wave Value)) →
      changed (waves_at table l.numbers) (map (λ i. (i, wave_at table l.change.number)) (members_below l.classes (class_of l.classes l.change.net) (above l.at)))
      ≡ changed (waves_at table l.initial.numbers) (for_class l.classes (l.change.net, wave_at table l.change.number));
  of : (t : ℕ) → l.at ≡ Some t → (class_of l.classes t ≡ class_of l.classes l.change.net) × (t < length l.classes);
}

abbrev pub decreases-loop-at : goal.decreases-loop-at
decreases-loop-at l = above l.at
