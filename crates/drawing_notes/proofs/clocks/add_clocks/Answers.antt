use Rattle.std.proofs.Common.{◌∙◌, arith}
use Rattle.drawing_notes.proofs.Gating.{clocks_start, clocks_more, clocks_end}
use Rattle.drawing_notes.proofs.clocks.add_clocks.Goals as goal

pub loop-net-init : goal.loop-net-init
loop-net-init c = clocks_start c.args.c.now c.args.found.now

pub add_clock-requires-clause-each_net : goal.add_clock-requires-clause-each_net
add_clock-requires-clause-each_net c = c.loop-net.invariant.each_net ∙ c.requires

pub loop-net-preserved : goal.loop-net-preserved
loop-net-preserved c =
    clocks_more c.args.c.now c.loop-net.net c.args.found.now c.loop-net.found c.add_clock.new.found c.loop-net.invariant c.in_ok-add_clock.ensures

pub returns : goal.returns
returns c =
    clocks_end c.args.c.now c.loop-net.net c.args.found.now c.loop-net.found
    (omega (arith, c.net_count-net-end.ensures, c.loop-net-test.false)) c.loop-net.invariant
