use Rattle.std.proofs.Common.{◌≡◌, ℕ, Bool, length}
use Rattle.fixpoint_engine.specs.Waves.{waves_of}
use Rattle.drawing_notes.specs.Arrivals.{AreSmall}
use Rattle.drawing_notes.specs.Seen.{Sees}
use Rattle.drawing_notes.specs.SoFar.{IsOrder}
use Rattle.drawing_notes.proofs.Placing.{Placed}
use Rattle.drawing_notes.proofs.launched.all_edges.Given as goal

abbrev pub invariant-loop-net : goal.invariant-loop-net
invariant-loop-net g l =
    let v = l.view in
    record {
      placed : (looped : ℕ → Bool) → Sees v.circuit.now looped v.waves.now v.within.now v.held.now → IsOrder v.circuit.now looped l.order →
          Placed v.circuit.now looped (waves_of v.waves.now) l.order l.net-index l.edges.items;
      each_net : length l.edges.items ≡ length v.circuit.now.nets;
      counted : l.steps ≡ l.net-index;
      small : AreSmall l.net-index l.edges.items;
    }
