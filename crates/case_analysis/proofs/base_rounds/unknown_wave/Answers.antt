use Rattle.std.proofs.Common.{sym, subst, arith}
use Rattle.step_values.specs.declared.value.Value.TheVariants.{U}
use Rattle.step_values.specs.Cell.{values}
use Rattle.step_values.specs.Lawful.{values_lawful}
use Rattle.skew_algebra.specs.Wave.{IsNormal, skewed}
use Rattle.skew_algebra.proofs.Normal.{uniform_normal}
use Rattle.case_analysis.proofs.base_rounds.unknown_wave.Goals as goal

pub new-requires : goal.new-requires
new-requires g c =
    subst (λ l. IsNormal values (skewed l 0)) (sym c.in_ok-wave.ensures)
    (uniform_normal values values_lawful c.period.result U (omega (arith, c.period.ensures.shortest)))
