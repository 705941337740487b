use Rattle.std.proofs.Common.{◌≡◌, ℕ, Some, length, take}
use Rattle.std.specs.List.{flat_map, list_any, range_with_len}
use Rattle.fixpoint_engine.specs.Settled.{marked_in}
use Rattle.drawing_notes.specs.Loops.{loop_at}
use Rattle.drawing_notes.specs.Parts.{part_at, same_part, together}
use Rattle.drawing_omissions.specs.Lines.{Adds}
use Rattle.drawing_notes.proofs.loop_notes.add_loops.Given as goal

-- the loops of the nets so far are noted, and no other
abbrev pub invariant-loop-place : goal.invariant-loop-place
invariant-loop-place l = record {
  each_net : length l.noted ≡ length l.c.nets;
  adds : Adds l.fn.notes l.notes (flat_map (loop_at l.c (together l.parts)) (range_with_len 0 l.place));
  noted : (root : ℕ) → marked_in l.noted root ≡ list_any (λ m. same_part (Some root) (part_at l.parts m)) (take l.place l.c.order);
}
