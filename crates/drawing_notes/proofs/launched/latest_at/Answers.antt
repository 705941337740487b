use Rattle.std.proofs.Common.{◌∙◌, ◌*◌, ◌+◌, sym, subst}
use Rattle.fixpoint_engine.specs.Waves.{waves_of}
use Rattle.drawing_notes.specs.Arrivals.{IsUpTo, edges_at, later}
use Rattle.drawing_notes.proofs.Arriving.{more_places}
use Rattle.drawing_notes.proofs.Small.{later_small}
use Rattle.drawing_notes.proofs.launched.latest_at.Goals as goal

pub loop-place-preserved : goal.loop-place-preserved
loop-place-preserved g c = record {
  is = c.later-latest.ensures ∙ (λ k. later (c.loop-place.invariant.is k) (c.pin_edge.ensures.is k))
      ∙ sym (more_places c.args.c.now c.args.held (waves_of c.args.waves.now) (edges_at c.args.edges.now) c.args.instance.now c.args.rise c.loop-place.place);
  small = λ steps small.
      subst (IsUpTo (131070 * steps + 65535)) (sym c.later-latest.ensures)
      (later_small (131070 * steps + 65535) c.loop-place.latest c.pin_edge.result (c.loop-place.invariant.small steps small) (c.pin_edge.ensures.small steps small));
}
