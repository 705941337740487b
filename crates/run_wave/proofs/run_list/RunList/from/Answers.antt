use Rattle.run_wave.proofs.Runs.{from_run}
use Rattle.run_wave.proofs.run_list.RunList.from.Goals as goal

pub returns-clause-cells : goal.returns-clause-cells
returns-clause-cells g c =
    let rs = c.args.self.now.runs.items in
    let w = c.run_with-place.ensures in
    from_run rs c.run_with-place.result.0 c.args.slot c.run_with-place.result.1 c.index.result.now w.known c.index.ensures w.begun w.behind w.end
