use Rattle.std.proofs.Common.{refl, ◌∙◌}
use Rattle.draw_report.proofs.Runs.{listed_by}
use Rattle.draw_report.proofs.run.listed_until.Goals as goal

pub returns-clause-same : goal.returns-clause-same
returns-clause-same g c = λ k after before.
    listed_by (g.W.CyclicWave.cells c.args.wave.now) c.args.slot c.from.result _
    c.same_until.result c.from-2.result k (c.from.ensures ∙ c.period.ensures) refl c.from-2.ensures
    c.same_until.ensures after before
