use Rattle.std.proofs.Common.{◌≡◌, ◌<◌, length, arith, ap, subst}
use Rattle.std.proofs.lemmas.Result.{IfOk-weaker}
use Rattle.skew_algebra.specs.Permits.{Keeps}
use Rattle.skew_algebra.specs.Wave.{skewed, folded}
use Rattle.skew_algebra.proofs.Moves.{Permits_folded, keeps_by}
use Rattle.skew_algebra.proofs.skewed.Skewed.folded.Goals as goal

pub returns-clause-permits : goal.returns-clause-permits
returns-clause-permits g c =
    let k = g.W.Item.Cell.kind in
    let cells = g.W.CyclicWave.cells c.self.inside.wave in
    let w = skewed cells c.self.inside.skew in
    let some : 0 < length cells = let p = (g.met.W.CyclicWave.sized c.self.inside.wave).shortest in omega (arith, p) in
    IfOk-weaker c.fold.result (λ f. g.W.CyclicWave.cells f ≡ folded k w)
    (λ f. Keeps k c.args.self.now (skewed (g.W.CyclicWave.cells f) 0))
    (λ f e. subst (λ v. Keeps k v (skewed (g.W.CyclicWave.cells f) 0)) c.self.view_is
    (keeps_by k w (skewed (folded k w) 0) (skewed (g.W.CyclicWave.cells f) 0) (ap (λ l. skewed l 0) e)
    (Permits_folded k g.met.W.Item.Cell.laws w some)))
    c.fold.ensures
