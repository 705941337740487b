use Rattle.std.proofs.Common.{◌≡◌, ◌∙◌, false, length, ap, arith, slice_get}
use Rattle.std.proofs.lemmas.List.{length-replicate}
use Rattle.fixpoint_engine.specs.Waves.{waves_of}
use Rattle.drawing_notes.specs.Passing.{keeps_at}
use Rattle.drawing_notes.proofs.Marking.{chosen, held_all}
use Rattle.drawing_notes.proofs.Stepped.{stepped_put, stepped_start}
use Rattle.drawing_notes.proofs.held.held.Goals as goal

pub loop-number-init : goal.loop-number-init
loop-number-init g c =
    let circuit = c.args.c.now in
    stepped_start false (chosen (λ k. keeps_at circuit (waves_of c.args.waves.now) (slice_get circuit.instances k))) c.in_ok-set.set

pub loop-number-preserved : goal.loop-number-preserved
loop-number-preserved g c =
    let circuit = c.args.c.now in
    let long : length c.in_ok-set.set ≡ c.instance_count.result = ap length c.in_ok-set.ensures ∙ length-replicate c.instance_count.result false in
    stepped_put false (chosen (λ k. keeps_at circuit (waves_of c.args.waves.now) (slice_get circuit.instances k))) c.in_ok-set.set c.loop-number.number c.loop-number.set
    c.put.new.set c.in_ok-keeps.keeps
    (omega (arith, long, c.instance_count.ensures, c.instance_count-number-end.ensures, c.loop-number-test.true))
    c.in_ok-keeps.ensures c.put.ensures c.loop-number.invariant

pub returns : goal.returns
returns g c =
    held_all c.args.c.now (waves_of c.args.waves.now) c.loop-number.number c.instance_count.result c.in_ok-set.set c.loop-number.set c.in_ok-set.ensures
    c.instance_count.ensures (omega (arith, c.instance_count-number-end.ensures, c.loop-number-test.false)) c.loop-number.invariant
