use Rattle.std.proofs.Common.{◌<◌, ◌∙◌, false, length, sym, arith, slice_get}
use Rattle.fixpoint_engine.specs.Waves.{waves_of}
use Rattle.drawing_notes.specs.Passing.{opens_at}
use Rattle.drawing_notes.proofs.Ranging.{any_at, any_before}
use Rattle.drawing_notes.proofs.found.has_open_pin_on.Goals as goal

pub returns-then-opens_at : goal.returns-then-opens_at
returns-then-opens_at g c =
    let j = c.args.instance.now in
    let below : c.loop-place.place < length j.pins = omega (arith, c.loop-place-test.true, c.loop-place.auto.place-end, c.len-place-end.ensures) in
    sym (any_at (λ place. opens_at c.args.held (waves_of c.args.waves.now) c.args.net j place (slice_get j.pins place)) (length j.pins) c.loop-place.place below
    (sym c.opens_at.ensures ∙ c.if-opens_at.true))

pub loop-place-preserved : goal.loop-place-preserved
loop-place-preserved g c =
    let j = c.args.instance.now in
    any_before (λ place. opens_at c.args.held (waves_of c.args.waves.now) c.args.net j place (slice_get j.pins place)) c.loop-place.place false
    c.loop-place.invariant (sym c.opens_at.ensures ∙ c.if-opens_at.false)
