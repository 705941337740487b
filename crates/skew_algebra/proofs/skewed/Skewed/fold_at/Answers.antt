use Rattle.std.proofs.Common.{◌<◌, length, sym, ap, subst, ◌∙◌}
use Rattle.skew_algebra.specs.Wave.{fold}
use Rattle.skew_algebra.proofs.Round.{fold_by}
use Rattle.skew_algebra.proofs.skewed.Skewed.fold_at.Goals as goal

pub returns : goal.returns
returns g c =
    let k = g.W.Item.Cell.kind in
    let cells = g.W.CyclicWave.cells c.self.inside.wave in
    let inside : c.args.slot < length cells = subst (λ w. c.args.slot < length w.cells) (sym c.self.view_is) c.requires in
    c.joined_from.ensures
    ∙ fold_by k g.met.W.Item.Cell.laws cells c.period-period.result c.args.slot c.self.inside.skew c.period-period.ensures inside
    c.self.invariant.short
    ∙ ap (λ w. fold k w c.args.slot) c.self.view_is
