use Rattle.std.proofs.Common.{ℕ, slice_get, subst, Option}
use Rattle.drawing_notes.specs.Arrivals.{arrival_at}
use Rattle.drawing_notes.specs.Late.{late_on}
use Rattle.drawing_notes.specs.Pins.{pin_net}
use Rattle.drawing_omissions.specs.Lines.{Adds}
use Rattle.drawing_omissions.proofs.Adding.{adds_number}
use Rattle.drawing_notes.proofs.late.add_late_at.Goals as goal

pub loop-place-preserved : goal.loop-place-preserved
loop-place-preserved c =
    adds_number (λ place. late_on c.args.c.now (arrival_at c.args.arrivals.now) c.args.number place (pin_net (slice_get c.in-Some.instance.now.pins place)))
    c.loop-place.place c.args.notes.now c.loop-place.notes c.add_late_on.new.notes c.loop-place.invariant
    (subst (λ (o : Option ℕ). Adds c.loop-place.notes c.add_late_on.new.notes (late_on c.args.c.now (arrival_at c.args.arrivals.now) c.args.number c.loop-place.place o))
    c.pin_net.ensures c.in_ok-add_late_on.ensures)
