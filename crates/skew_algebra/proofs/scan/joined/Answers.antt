use Rattle.std.proofs.Common.{◌<◌, length, arith, ◌∙◌}
use Rattle.skew_algebra.proofs.Round.{joined_by}
use Rattle.skew_algebra.proofs.scan.joined.Goals as goal

pub returns : goal.returns
returns g c =
    let cells = g.W.CyclicWave.cells c.args.wave.now in
    let some : 0 < length cells = let sized = g.met.W.CyclicWave.sized c.args.wave.now in let shortest = sized.shortest in omega (arith, shortest) in
    c.joined_from.ensures ∙ joined_by g.W.Item.Cell.kind cells c.period.result c.period.ensures some
