use Rattle.std.proofs.Common.{◌∙◌, subst, sym}
use Rattle.flat_circuit.specs.Circuit.{Circuit}
use Rattle.fixpoint_engine.specs.Waves.{FitWaves}
use Rattle.draw_report.proofs.job.draw_in.Goals as goal

pub draw_page-requires : goal.draw_page-requires
draw_page-requires g c =
    subst (λ (z : Circuit). FitWaves z c.args.waves.now)
    (sym (c.new-sheets.ensures ∙ c.sheet_of-sheet.ensures)) c.requires.fit

pub draw_wanted-requires-clause-fit : goal.draw_wanted-requires-clause-fit
draw_wanted-requires-clause-fit g c =
    subst (λ (z : Circuit). FitWaves z c.args.waves.now) (sym c.sheet_of-sheet.ensures)
    c.requires.fit
