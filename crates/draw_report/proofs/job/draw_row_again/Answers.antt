use Rattle.std.proofs.Common.{subst, sym}
use Rattle.flat_circuit.specs.Circuit.{Circuit}
use Rattle.fixpoint_engine.specs.Waves.{FitWaves}
use Rattle.draw_report.proofs.job.draw_row_again.Goals as goal

pub draw_row-requires : goal.draw_row-requires
draw_row-requires g c =
    record {
      fit =
          subst (λ (z : Circuit). FitWaves z c.waves_in-waves.result) (sym c.requires.circuit)
          (subst (FitWaves c.args.job.subject.now.circuit) (sym c.waves_in-waves.ensures)
          c.in_ok-case.ensures.fit);
    }
