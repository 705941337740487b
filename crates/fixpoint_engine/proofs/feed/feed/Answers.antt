use Rattle.std.proofs.Common.{◌≡◌, ◌∙◌, ◌-◌, ◌≤◌, fold, length, ap, arith, refl}
use Rattle.fixpoint_engine.specs.Feed.{cells_fed}
use Rattle.fixpoint_engine.proofs.Feeding.{feeds_more, feeds_all}
use Rattle.fixpoint_engine.proofs.feed.feed.Goals as goal

pub runs-init : goal.runs-init
runs-init g c = record {
  within = omega arith;
  ended = g.met.W.CyclicWave.none_end c.args.wave.now;
  few = omega arith;
  fed = refl;
}

pub runs-preserved : goal.runs-preserved
runs-preserved g c =
    let cells = g.W.CyclicWave.cells c.args.wave.now in
    let all = fold g.H.Hasher.write c.args.state.now (cells_fed cells) in
    let until = c.run_after-cell.ensures.end in
    let long : c.period-period.result ≡ length cells = c.period-period.ensures in
    let left : c.period-period.result - c.run_after-cell.result.1 ≡ length cells - c.run_after-cell.result.1 = ap (λ n. n - c.run_after-cell.result.1) long in
    record {
      within = until.within;
      ended = c.run_after-cell.ensures.next;
      few = (let before = c.runs.invariant.few in let on = until.behind in omega (arith, before, on));
      fed = feeds_more g.H.Hasher.write cells c.runs.slot c.run_after-cell.result.1 c.run_after-cell.result.0 c.from.result c.from-in-runs.result
          c.runs.state c.write_u32.new.self all until c.run_after-cell.ensures.cell (c.from.ensures ∙ c.letter.ensures) (c.from-in-runs.ensures ∙ left)
          c.runs.invariant.fed c.write_u32.ensures;
    }

pub returns : goal.returns
returns g c =
    let cells = g.W.CyclicWave.cells c.args.wave.now in
    let past : length cells ≤ c.runs.slot = let out = c.runs-test.false in let long = c.period-period.ensures in omega (arith, out, long) in
    feeds_all g.H.Hasher.write cells c.runs.slot c.runs.state (fold g.H.Hasher.write c.args.state.now (cells_fed cells)) past c.runs.invariant.fed
