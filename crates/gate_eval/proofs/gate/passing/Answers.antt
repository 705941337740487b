use Rattle.std.proofs.Common.{◌∙◌, [], ◌∷◌, map, rules, ap, arith}
use Rattle.wave_core.proofs.Slots.{mapped}
use Rattle.step_values.specs.declared.value.Value.TheVariants.{S}
use Rattle.skew_algebra.specs.Wave.{skewed}
use Rattle.gate_eval.proofs.gate.passing.Goals as goal

pub returns-clause-made : goal.returns-clause-made
returns-clause-made g c =
    let cells =
    mapped _ (λ v. (g.I.Image.value_of c.args.image.now) (v ∷ S ∷ [])) (g.W.CyclicWave.cells c.wave.result.now) (g.W.CyclicWave.cells c.in_ok-made.made)
    (λ x y h. search rules) c.in_ok-made.ensures
    ∙ ap (map (λ v. (g.I.Image.value_of c.args.image.now) (v ∷ S ∷ []))) c.wave.ensures in
    λ i. skewed (cells i) (c.skew.ensures i)

pub returns-clause-short : goal.returns-clause-short
returns-clause-short g c =
    let less = c.known.ensures.normal.short in
    let most = c.known.ensures.sized.longest in
    omega (arith, less, most, c.skew.ensures)
