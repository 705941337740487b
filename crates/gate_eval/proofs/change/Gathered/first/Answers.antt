use Rattle.std.proofs.Common.{arith, ◌∙◌}
use Rattle.wave_core.specs.Slots.{slots}
use Rattle.step_values.specs.declared.value.Value.TheVariants.{S}
use Rattle.skew_algebra.specs.Wave.{skewed}
use Rattle.gate_eval.proofs.change.Gathered.first.Goals as goal

pub returns-clause-seen : goal.returns-clause-seen
returns-clause-seen g c = c.in_ok-seen.ensures ∙ (λ i. slots (c.period.ensures i) (λ p. S))

pub returns-clause-last : goal.returns-clause-last
returns-clause-last g c =
    let cells = c.in_ok-last.ensures ∙ c.wave.ensures in
    λ i. skewed (cells i) (c.skew.ensures i)

pub returns-clause-short : goal.returns-clause-short
returns-clause-short g c =
    let less = c.known.ensures.normal.short in
    let most = c.known.ensures.sized.longest in
    omega (arith, less, most)
