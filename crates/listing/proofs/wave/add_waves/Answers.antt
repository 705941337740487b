use Rattle.std.proofs.Common.{ℕ, List, ◌∙◌, ◌<◌, ◌++◌, length, arith, ap, subst, sym}
use Rattle.std.specs.List.{flat_map}
use Rattle.std.proofs.lemmas.List.{take_all}
use Rattle.scald_base.proofs.Device.{at_err}
use Rattle.fixpoint_engine.specs.Waves.{waves_of}
use Rattle.flat_circuit.proofs.Numbered.{order_long}
use Rattle.listing.specs.Wave.{wave_line}
use Rattle.listing.specs.Text.{HasPart}
use Rattle.listing.proofs.Parts.{item_added, part_of_item}
use Rattle.listing.proofs.Waves.{has_wave}
use Rattle.listing.proofs.wave.add_waves.Goals as goal

pub net_at-requires : goal.net_at-requires
net_at-requires g c =
    let long = order_long c.args.c.now.nets c.args.c.now.order c.known.ensures.by_name in
    omega (arith, long, c.net_count-place-end.ensures, c.loop-place-test.true)

pub add_wave-requires : goal.add_wave-requires
add_wave-requires g c =
    let long = order_long c.args.c.now.nets c.args.c.now.order c.known.ensures.by_name in
    let within : c.loop-place.place < length c.args.c.now.order = omega (arith, long, c.net_count-place-end.ensures, c.loop-place-test.true) in
    subst (λ (i : ℕ). i < length c.args.waves.now) (sym c.net_at.ensures)
    (has_wave c.args.c.now c.args.waves.now c.loop-place.place c.known.ensures.by_name c.requires.each_net within)

pub returns-in_err-add_wave-clause-err : goal.returns-in_err-add_wave-clause-err
returns-in_err-add_wave-clause-err g c =
    let long = order_long c.args.c.now.nets c.args.c.now.order c.known.ensures.by_name in
    let within : c.loop-place.place < length c.args.c.now.order = omega (arith, long, c.net_count-place-end.ensures, c.loop-place-test.true) in
    let all = waves_of c.args.waves.now in
    at_err c.from_residual.result
    (part_of_item (wave_line c.args.c.now all) c.args.c.now.order c.loop-place.place 0 c.args.out.now c.loop-place.out c.add_wave.new.out within c.loop-place.invariant
    (subst (λ (i : ℕ). HasPart c.loop-place.out c.add_wave.new.out (wave_line c.args.c.now all i)) c.net_at.ensures c.in_err-add_wave.ensures.err))

pub loop-place-preserved : goal.loop-place-preserved
loop-place-preserved g c =
    let long = order_long c.args.c.now.nets c.args.c.now.order c.known.ensures.by_name in
    let within : c.loop-place.place < length c.args.c.now.order = omega (arith, long, c.net_count-place-end.ensures, c.loop-place-test.true) in
    let all = waves_of c.args.waves.now in
    item_added (wave_line c.args.c.now all) c.args.c.now.order c.loop-place.place 0 c.args.out.now c.loop-place.out c.add_wave.new.out within c.loop-place.invariant
    (c.in_ok-add_wave.ensures.ok ∙ ap (λ (i : ℕ). c.loop-place.out ++ wave_line c.args.c.now all i) c.net_at.ensures)

pub returns-clause-ok : goal.returns-clause-ok
returns-clause-ok g c =
    let long = order_long c.args.c.now.nets c.args.c.now.order c.known.ensures.by_name in
    let all = waves_of c.args.waves.now in
    c.loop-place.invariant
    ∙ ap (λ (l : List ℕ). c.args.out.now ++ flat_map (wave_line c.args.c.now all) l)
    (take_all c.loop-place.place c.args.c.now.order (omega (arith, long, c.net_count-place-end.ensures, c.loop-place-test.false)))
