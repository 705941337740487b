use Rattle.std.proofs.Common.{◌<◌, ℕ, List, length, subst, arith}
use Rattle.std.specs.List.{flat_map}
use Rattle.std.proofs.lemmas.List.{take_all}
use Rattle.flat_circuit.proofs.Numbered.{order_long}
use Rattle.drawing_omissions.specs.Lines.{Adds}
use Rattle.drawing_notes.specs.Unread.{unread_at}
use Rattle.drawing_omissions.proofs.Adding.{adds_item}
use Rattle.drawing_notes.proofs.unread.add_unread.Goals as goal

pub loop-place-preserved : goal.loop-place-preserved
loop-place-preserved c =
    let long = order_long c.args.c.now.nets c.args.c.now.order c.known.ensures.by_name in
    let within : c.loop-place.place < length c.args.c.now.order = omega (arith, long, c.net_count-place-end.ensures, c.loop-place-test.true) in
    adds_item (unread_at c.args.c.now) c.args.c.now.order c.loop-place.place c.args.notes.now c.loop-place.notes c.add_unread_at.new.notes within
    c.loop-place.invariant
    (subst (λ (i : ℕ). Adds c.loop-place.notes c.add_unread_at.new.notes (unread_at c.args.c.now i)) c.net_at.ensures c.in_ok-add_unread_at.ensures)

pub returns : goal.returns
returns c =
    let long = order_long c.args.c.now.nets c.args.c.now.order c.known.ensures.by_name in
    subst (λ (l : List ℕ). Adds c.args.notes.now c.loop-place.notes (flat_map (unread_at c.args.c.now) l))
    (take_all c.loop-place.place c.args.c.now.order (omega (arith, long, c.net_count-place-end.ensures, c.loop-place-test.false))) c.loop-place.invariant
