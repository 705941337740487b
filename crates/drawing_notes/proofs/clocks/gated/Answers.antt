use Rattle.std.proofs.Common.{◌≡◌, ◌∙◌, false, length, ap, arith}
use Rattle.std.proofs.lemmas.List.{length-replicate}
use Rattle.drawing_notes.specs.Unmarked.{is_gated}
use Rattle.drawing_notes.proofs.Marking.{chosen, gated_all}
use Rattle.drawing_notes.proofs.Stepped.{stepped_put, stepped_start}
use Rattle.drawing_notes.proofs.clocks.gated.Goals as goal

pub loop-net-init : goal.loop-net-init
loop-net-init c = stepped_start false (chosen (is_gated c.args.c.now)) c.in_ok-set.set

pub loop-net-preserved : goal.loop-net-preserved
loop-net-preserved c =
    let long : length c.in_ok-set.set ≡ c.net_count.result = ap length c.in_ok-set.ensures ∙ length-replicate c.net_count.result false in
    stepped_put false (chosen (is_gated c.args.c.now)) c.in_ok-set.set c.loop-net.net c.loop-net.set c.put.new.set c.is_gated.result
    (omega (arith, long, c.net_count.ensures, c.net_count-net-end.ensures, c.loop-net-test.true)) c.is_gated.ensures c.put.ensures c.loop-net.invariant

pub returns : goal.returns
returns c =
    gated_all c.args.c.now c.loop-net.net c.net_count.result c.in_ok-set.set c.loop-net.set c.in_ok-set.ensures c.net_count.ensures
    (omega (arith, c.net_count-net-end.ensures, c.loop-net-test.false)) c.loop-net.invariant
