use Rattle.std.proofs.Common.{◌<◌, ◌≤◌, length, arith}
use Rattle.section_compose.specs.Rules.{circuits}
use Rattle.section_compose.proofs.Crossing.{case_next, case_none, case_whole}
use Rattle.section_compose.proofs.evaluated.crossing_case.Goals as goal

pub loop-net-init : goal.loop-net-init
loop-net-init c = case_none (circuits c.args.sections.now) c.args.c.now c.new-case.result c.new-case.ensures

pub loop-net-preserved : goal.loop-net-preserved
loop-net-preserved c =
    let below : c.loop-net.net < length c.args.c.now.nets = omega (arith, c.loop-net-test.true, c.net_count-net-end.ensures) in
    case_next (circuits c.args.sections.now) c.args.c.now c.loop-net.net c.loop-net.case c.add_where.new.case c.comes_in.result c.comes_in.ensures below
    c.in_ok-add_where.ensures c.loop-net.invariant

pub returns : goal.returns
returns c =
    let past : length c.args.c.now.nets ≤ c.loop-net.net = omega (arith, c.loop-net-test.false, c.loop-net.auto.net-end, c.net_count-net-end.ensures) in
    case_whole (circuits c.args.sections.now) c.args.c.now c.loop-net.net c.loop-net.case past c.loop-net.invariant
