use Rattle.std.proofs.Common.{◌≡◌, ◌||◌, ℕ, length, take}
use Rattle.fixpoint_engine.specs.Settled.{marked_in}
use Rattle.drawing_omissions.specs.Loose.{sets}
use Rattle.drawing_omissions.proofs.loose.mark_case.Given as goal

abbrev pub invariant-loop-value : goal.invariant-loop-value
invariant-loop-value l = record {
  long : length l.set ≡ length l.fn.set;
  marks : (i : ℕ) → marked_in l.set i ≡ (marked_in l.fn.set i || sets i (take l.value-index l.values));
}
