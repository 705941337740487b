use Rattle.std.proofs.Common.{sym, ap, ◌∙◌}
use Rattle.run_wave.specs.Run.{cells_of}
use Rattle.std.specs.Cmp.Lexicographic.{pointwise_decides}
use Rattle.run_wave.proofs.Unique.{same_run, unique}
use Rattle.run_wave.proofs.run_wave.RunWaveCyclicWave.equal.Goals as goal

pub returns : goal.returns
returns g c =
    let rs = c.args.self.now.list.runs.items in
    let ss = c.args.other.now.list.runs.items in
    let decides = pointwise_decides (same_run g.T.PartialEq.eq (λ v w. (
      λ e. g.met.T.Cell.laws.same_is v w (sym (g.met.T.Cell.equal v w) ∙ e),
      λ e. g.met.T.Cell.equal v w ∙ ap (λ z. g.T.Cell.kind.same v z) (sym e) ∙ g.met.T.Cell.laws.same_self v,
    ))) rs ss in (
      λ t. ap cells_of (decides.0 (sym c.eq.ensures ∙ t)),
      λ e. c.eq.ensures ∙ decides.1 (unique rs ss c.args.self.now.list.is_runs c.args.other.now.list.is_runs e),
    )
