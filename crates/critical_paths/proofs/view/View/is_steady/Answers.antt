use Rattle.std.proofs.Common.{sym, ap, ◌∙◌}
use Rattle.step_values.specs.Cell.{values}
use Rattle.skew_algebra.specs.Wave.{is_steady}
use Rattle.fixpoint_engine.specs.Waves.{target_wave, waves_of}
use Rattle.critical_paths.proofs.Showing.{constant_steady}
use Rattle.critical_paths.proofs.view.View.is_steady.Goals as goal

pub returns-in-Constant : goal.returns-in-Constant
returns-in-Constant g c =
    let h = c.args.self.now.circuit.now.header in
    constant_steady h c.in-Constant.field-0
    ∙ ap (λ t. is_steady values (target_wave h (waves_of c.args.self.now.waves.now) t).cells)
    (sym c.in-Constant.is)
