use Rattle.std.proofs.Common.{arith}
use Rattle.run_wave.proofs.Search.{in_run}
use Rattle.run_wave.proofs.run_list.RunList.at.Goals as goal

pub returns : goal.returns
returns g c =
    let rs = c.args.self.now.runs.items in
    let w = c.run_with-place.ensures in
    in_run rs c.run_with-place.result.0 c.args.slot c.index.result.now w.known c.index.ensures w.begun (omega (arith, w.behind, w.end))
