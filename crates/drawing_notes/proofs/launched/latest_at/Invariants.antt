use Rattle.std.proofs.Common.{◌≡◌, ◌*◌, ◌+◌, ℕ}
use Rattle.fixpoint_engine.specs.Waves.{waves_of}
use Rattle.drawing_notes.specs.Arrivals.{AreSmall, IsUpTo, edges_at, latest_to}
use Rattle.drawing_notes.proofs.launched.latest_at.Given as goal

abbrev pub invariant-loop-place : goal.invariant-loop-place
invariant-loop-place g l = record {
  is : l.latest ≡ latest_to l.c l.held (waves_of l.waves) (edges_at l.edges) l.instance l.rise l.place;
  small : (steps : ℕ) → AreSmall steps l.edges → IsUpTo (131070 * steps + 65535) l.latest;
}
