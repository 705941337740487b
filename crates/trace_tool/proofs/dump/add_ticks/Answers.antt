use Rattle.trace_tool.proofs.Levels.{tick_less}
use Rattle.trace_tool.proofs.dump.add_ticks.Goals as goal

pub loop-tick-preserved : goal.loop-tick-preserved
loop-tick-preserved c =
    tick_less c.args.c.now c.args.rows.now c.args.all.now c.loop-tick.tick c.args.ticks c.loop-tick.out c.add_tick.new.out _
    c.loop-tick-test.true c.in_ok-add_tick.ensures c.loop-tick.invariant
