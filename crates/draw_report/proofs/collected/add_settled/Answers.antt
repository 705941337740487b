use Rattle.std.proofs.Common.{◌++◌, ◌∷◌, [], List, subst, sym}
use Rattle.std.proofs.lemmas.Result.{on_ok_weaker}
use Rattle.step_values.specs.declared.value.Value.{Value}
use Rattle.skew_algebra.specs.Wave.{Wave}
use Rattle.fixpoint_engine.specs.Waves.{FitWaves, waves_of}
use Rattle.slack_report.specs.Answer.{AreRows}
use Rattle.draw_report.proofs.collected.add_settled.Goals as goal

pub add_case-requires-clause-fit : goal.add_case-requires-clause-fit
add_case-requires-clause-fit g c =
    subst (FitWaves c.args.circuit.now) (sym c.waves_in-waves.ensures) c.requires.fit

pub returns-clause-rows : goal.returns-clause-rows
returns-clause-rows g c =
    on_ok_weaker c.add_case.result
    (λ more cases rows. subst (λ (ws : List (Wave Value)). AreRows c.args.circuit.now
    (cases ++ record { number = c.args.case.now.number; waves = waves_of ws } ∷ [])
    c.add_case.new.rows) c.waves_in-waves.ensures (more cases rows))
    c.add_case.ensures
