use Rattle.std.proofs.Common.{◌≡◌, ℕ, map, take}
use Rattle.step_values.specs.declared.value.Value.{Value}
use Rattle.skew_algebra.specs.Wave.{Wave}
use Rattle.fixpoint_engine.specs.Members.{for_classes}
use Rattle.fixpoint_engine.proofs.class_changes.for_classes.Given as goal

abbrev pub invariant-loop-change : goal.invariant-loop-change
invariant-loop-change l =
    (read : ℕ → Wave Value) → map (λ ch. (ch.net, read ch.number)) l.made.items ≡ for_classes l.classes (map (λ ch. (ch.net, read ch.number)) (take l.change-index l.changes))
