use Rattle.std.proofs.Common.{◌≡◌, ◌<◌, ◌++◌, ℕ, length, map, Some}
use Rattle.step_values.specs.declared.value.Value.{Value}
use Rattle.skew_algebra.specs.Wave.{Wave}
use Rattle.flat_circuit.specs.Alike.{class_of}
use Rattle.fixpoint_engine.specs.Members.{members_below, for_class}
use Rattle.fixpoint_engine.proofs.Members.{above}
use Rattle.fixpoint_engine.proofs.class_changes.add_class.Given as goal

abbrev pub invariant-loop-at : goal.invariant-loop-at
invariant-loop-at l = record {
  left : (read : ℕ → Wave Value) → map (λ ch. (ch.net, read ch.number)) l.made.items
      ++ map (λ i. (i, read l.change.number)) (members_below l.classes (class_of l.classes l.change.net) (above l.at))
      ≡ map (λ ch. (ch.net, read ch.number)) l.initial.made.items ++ for_class l.classes (l.change.net, read l.change.number);
  of : (t : ℕ) → l.at ≡ Some t → (class_of l.classes t ≡ class_of l.classes l.change.net) × (t < length l.classes);
}

abbrev pub decreases-loop-at : goal.decreases-loop-at
decreases-loop-at l = above l.at
