use Rattle.std.proofs.Common.{◌<◌, length, arith}
use Rattle.skew_algebra.proofs.Round.{equal_by}
use Rattle.skew_algebra.proofs.scan.all_equal.Goals as goal

pub returns : goal.returns
returns g c =
    let cells = g.W.CyclicWave.cells c.args.wave.now in
    let some : 0 < length cells = let same = c.same_until.ensures in let behind = same.behind in let within = same.within in omega (arith, behind, within) in
    equal_by g.W.Item.Cell.kind g.met.W.Item.Cell.laws cells c.same_until.result c.period.result c.period.ensures some c.same_until.ensures
