use Rattle.std.proofs.Common.{◌+◌, arith}
use Rattle.draw_report.specs.Wave.{runs_from}
use Rattle.draw_report.proofs.Runs.{one_placed}
use Rattle.draw_report.proofs.run.runs_in.Goals as goal

pub loop-slot-preserved : goal.loop-slot-preserved
loop-slot-preserved g c =
    let cells = g.W.CyclicWave.cells c.args.wave.now in
    record {
      all = one_placed cells c.args.from c.loop-slot.slot (c.args.from + c.args.count)
          c.run_end-end.result c.loop-slot.runs c.push.new.self
          (runs_from cells c.args.from c.args.count) c.value_at.result c.loop-slot.invariant.after
          c.run_end-end.ensures c.value_at.ensures c.in_ok-push.ensures.ok
          c.loop-slot.invariant.all;
      after = omega arith;
    }
