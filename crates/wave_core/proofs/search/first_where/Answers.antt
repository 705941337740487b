use Rattle.std.proofs.Common.{◌+◌, ◌%◌, Bool, true, false, refl, sym, subst}
use Rattle.wave_core.proofs.Places.{round_cell, gives_more}
use Rattle.wave_core.proofs.search.first_where.Goals as goal

pub returns-then-test : goal.returns-then-test
returns-then-test g c =
    let k = g.W.Item.Cell.kind in
    let cells = g.W.CyclicWave.cells c.args.wave.now in
    let given = subst (λ (b : Bool). g.F.Fn.post c.args.test (c.run_at-cell.result.0, tt) b) c.if-test.true c.test.ensures in
    let here = round_cell k cells c.period-period.result (c.args.from + c.loop-place.place) ((c.args.from + c.loop-place.place) % c.period-period.result) c.run_at-cell.result.0
    c.period-period.ensures refl c.run_at-cell.ensures.cell in
    record {
      within = c.loop-place-test.true;
      passes = subst (λ v. g.F.Fn.post c.args.test (v, tt) true) (sym here) given;
      before = c.loop-place.invariant;
    }

pub loop-place-preserved : goal.loop-place-preserved
loop-place-preserved g c =
    let k = g.W.Item.Cell.kind in
    let cells = g.W.CyclicWave.cells c.args.wave.now in
    let given = subst (λ (b : Bool). g.F.Fn.post c.args.test (c.run_at-cell.result.0, tt) b) c.if-test.false c.test.ensures in
    gives_more k cells (λ v passes. g.F.Fn.post c.args.test (v, tt) passes) false c.period-period.result c.args.from 0 c.loop-place.place
    ((c.args.from + c.loop-place.place) % c.period-period.result) c.run_at-cell.result.1 c.run_at-cell.result.0 c.period-period.ensures refl c.run_at-cell.ensures.cell
    c.run_at-cell.ensures.end given c.loop-place.invariant
