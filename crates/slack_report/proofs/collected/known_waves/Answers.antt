use Rattle.std.proofs.Common.{arith}
use Rattle.fixpoint_engine.specs.Waves.{waves_of}
use Rattle.slack_report.proofs.Hazards.{normal_more}
use Rattle.slack_report.proofs.collected.known_waves.Goals as goal

pub loop-net-init : goal.loop-net-init
loop-net-init g c i below = absurd (omega (arith, below))

pub loop-net-preserved : goal.loop-net-preserved
loop-net-preserved g c =
    normal_more (waves_of c.args.waves.now) c.loop-net.net c.at.result.now c.loop-net.invariant
    c.at.ensures c.known.ensures.normal

pub returns : goal.returns
returns g c i below =
    c.loop-net.invariant i
    (omega (arith, below, c.loop-net-test.false, c.net_count-net-end.ensures))
