use Rattle.run_wave.proofs.Search.{run_ends}
use Rattle.run_wave.proofs.run_list.RunList.same_until.Goals as goal

pub returns : goal.returns
returns g c =
    let rs = c.args.self.now.runs.items in
    let w = c.run_with-place.ensures in
    run_ends rs c.run_with-place.result.0 c.args.slot c.run_with-place.result.1 w.known c.args.self.now.is_runs w.begun w.behind w.end
