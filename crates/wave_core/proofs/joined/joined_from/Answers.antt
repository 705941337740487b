use Rattle.std.proofs.Common.{◌+◌, ◌%◌, refl, arith}
use Rattle.wave_core.proofs.Places.{join_begun, join_more}
use Rattle.wave_core.proofs.joined.joined_from.Goals as goal

pub loop-place-init : goal.loop-place-init
loop-place-init g c =
    let k = g.W.Item.Cell.kind in
    let cells = g.W.CyclicWave.cells c.args.wave.now in
    record {
      some = omega (arith, c.run_at-all.ensures.end.behind);
      so_far = join_begun k g.met.W.Item.Cell.laws cells c.period-period.result c.args.from c.run_at-all.result.1 c.args.count c.run_at-all.result.0
          c.period-period.ensures c.requires.from c.run_at-all.ensures.cell c.run_at-all.ensures.end c.requires.some;
    }

pub loop-place-preserved : goal.loop-place-preserved
loop-place-preserved g c =
    let k = g.W.Item.Cell.kind in
    let cells = g.W.CyclicWave.cells c.args.wave.now in
    record {
      some = omega (arith, c.loop-place.invariant.some);
      so_far = join_more k g.met.W.Item.Cell.laws cells c.period-period.result c.args.from c.loop-place.place
          ((c.args.from + c.loop-place.place) % c.period-period.result) c.run_at-cell.result.1 c.args.count c.loop-place.all c.run_at-cell.result.0 c.join-all.result
          c.period-period.ensures refl c.run_at-cell.ensures.cell c.run_at-cell.ensures.end c.loop-place.invariant.some c.loop-place-test.true
          c.loop-place.invariant.so_far c.join-all.ensures;
    }
