use Rattle.std.proofs.Common.{arith}
use Rattle.run_wave.proofs.Search.{in_run, run_ends}
use Rattle.run_wave.proofs.run_list.RunList.run_at.Goals as goal

pub returns-clause-cell : goal.returns-clause-cell
returns-clause-cell g c =
    let rs = c.args.self.now.runs.items in
    let w = c.run_with-place.ensures in
    in_run rs c.run_with-place.result.0 c.args.slot c.index.result.now w.known c.index.ensures w.begun (omega (arith, w.behind, w.end))

pub returns-clause-end : goal.returns-clause-end
returns-clause-end g c =
    let rs = c.args.self.now.runs.items in
    let w = c.run_with-place.ensures in
    run_ends rs c.run_with-place.result.0 c.args.slot c.run_with-place.result.1 w.known c.args.self.now.is_runs w.begun w.behind w.end
