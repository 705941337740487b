use Rattle.std.proofs.Common.{◌≡◌, ℕ, ◌<◌, ◌≤◌, false, length, replicate, vec_len}
use Rattle.fixpoint_engine.specs.Settled.{marked_in}
use Rattle.drawing_notes.specs.Parts.{ArePartly}
use Rattle.drawing_notes.proofs.loops.parts.Given as goal

abbrev pub invariant-left : goal.invariant-left
invariant-left l = record {
  partly : ArePartly l.c l.fresh l.parts.items;
  reached : l.search.reached.marks ≡ replicate (length l.c.nets) false;
  shared : l.search.shared.marks ≡ replicate (length l.c.nets) false;
  within : l.place ≤ vec_len l.left;
}

abbrev pub decreases-left : goal.decreases-left
decreases-left l = l.place

abbrev pub invariant-loop-root : goal.invariant-loop-root
invariant-loop-root l = record {
  partly : ArePartly l.c l.fresh l.parts.items;
  reached : l.search.reached.marks ≡ replicate (length l.c.nets) false;
  shared : l.search.shared.marks ≡ replicate (length l.c.nets) false;
  known : (i : ℕ) → i < l.root → marked_in l.fresh i ≡ false;
}
