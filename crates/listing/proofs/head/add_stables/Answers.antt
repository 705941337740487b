use Rattle.std.proofs.Common.{ℕ, List, ◌∙◌, ◌<◌, ◌++◌, length, arith, ap, subst}
use Rattle.std.specs.List.{flat_map}
use Rattle.std.proofs.lemmas.List.{take_all}
use Rattle.scald_base.proofs.Device.{at_err}
use Rattle.flat_circuit.proofs.Numbered.{order_long}
use Rattle.listing.specs.Head.{stable_line}
use Rattle.listing.specs.Text.{HasPart}
use Rattle.listing.proofs.Parts.{item_added, part_of_item}
use Rattle.listing.proofs.head.add_stables.Goals as goal

pub net_at-requires : goal.net_at-requires
net_at-requires c =
    let long = order_long c.args.c.now.nets c.args.c.now.order c.known.ensures.by_name in
    omega (arith, long, c.net_count-place-end.ensures, c.loop-place-test.true)

pub returns-in_err-add_stable-clause-err : goal.returns-in_err-add_stable-clause-err
returns-in_err-add_stable-clause-err c =
    let long = order_long c.args.c.now.nets c.args.c.now.order c.known.ensures.by_name in
    let within : c.loop-place.place < length c.args.c.now.order = omega (arith, long, c.net_count-place-end.ensures, c.loop-place-test.true) in
    at_err c.from_residual.result
    (part_of_item (stable_line c.args.c.now) c.args.c.now.order c.loop-place.place 0 c.args.out.now c.loop-place.out c.add_stable.new.out within c.loop-place.invariant
    (subst (λ (i : ℕ). HasPart c.loop-place.out c.add_stable.new.out (stable_line c.args.c.now i)) c.net_at.ensures c.in_err-add_stable.ensures.err))

pub loop-place-preserved : goal.loop-place-preserved
loop-place-preserved c =
    let long = order_long c.args.c.now.nets c.args.c.now.order c.known.ensures.by_name in
    let within : c.loop-place.place < length c.args.c.now.order = omega (arith, long, c.net_count-place-end.ensures, c.loop-place-test.true) in
    item_added (stable_line c.args.c.now) c.args.c.now.order c.loop-place.place 0 c.args.out.now c.loop-place.out c.add_stable.new.out within c.loop-place.invariant
    (c.in_ok-add_stable.ensures.ok ∙ ap (λ (i : ℕ). c.loop-place.out ++ stable_line c.args.c.now i) c.net_at.ensures)

pub returns-clause-ok : goal.returns-clause-ok
returns-clause-ok c =
    let long = order_long c.args.c.now.nets c.args.c.now.order c.known.ensures.by_name in
    c.loop-place.invariant
    ∙ ap (λ (l : List ℕ). c.args.out.now ++ flat_map (stable_line c.args.c.now) l)
    (take_all c.loop-place.place c.args.c.now.order (omega (arith, long, c.net_count-place-end.ensures, c.loop-place-test.false)))
