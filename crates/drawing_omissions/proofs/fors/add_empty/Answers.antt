use Rattle.drawing_omissions.specs.Fors.{empty_at}
use Rattle.drawing_omissions.proofs.Adding.{adds_item_of}
use Rattle.drawing_omissions.proofs.fors.add_empty.Goals as goal

pub loop-place-preserved : goal.loop-place-preserved
loop-place-preserved c =
    adds_item_of (empty_at c.args.found.now) c.args.places.now c.loop-place.place-index _ c.args.notes.now c.loop-place.notes c.add_empty_at.new.notes
    c.loop-place-test.true c.loop-place.invariant (c.in_ok-add_empty_at.ensures c.args.found.now c.in_ok-reached.ensures c.in_ok-turned.ensures)
