use Rattle.std.proofs.Common.{subst, sym}
use Rattle.flat_circuit.specs.Circuit.{Circuit}
use Rattle.fixpoint_engine.specs.Waves.{FitWaves}
use Rattle.draw_report.proofs.drawn.row_picture.Goals as goal

pub picture-requires-clause-fit : goal.picture-requires-clause-fit
picture-requires-clause-fit g c =
    subst (λ (z : Circuit). FitWaves z c.args.waves.now) (sym c.along_paths.ensures) c.requires.fit
