use Rattle.std.proofs.Common.{◌≡◌, ◌+◌, ◌-◌, rules, ◌∙◌}
use Rattle.std.proofs.lemmas.Result.{IfOk-weaker}
use Rattle.step_values.specs.Cell.{values}
use Rattle.skew_algebra.specs.Wave.{skewed, normal, moved}
use Rattle.skew_algebra.proofs.Normal.{moved_by}
use Rattle.gate_eval.proofs.meeting.late.Goals as goal

pub returns : goal.returns
returns g c =
    let w = skewed (g.W.CyclicWave.cells c.args.wave.now) c.args.skew in
    let skew = c.args.skew + (c.d.inside.max - c.d.inside.min) in
    let low : c.d.inside.min ≡ c.args.d.min = search rules in
    let high : c.d.inside.max ≡ c.args.d.max = search rules in
    IfOk-weaker c.normal.result
    (λ s. s ≡ normal values (skewed (g.W.CyclicWave.cells c.in_ok-turned.turned) skew))
    (λ s. s ≡ moved values w c.args.d)
    (λ s e. e ∙ moved_by values w (g.W.CyclicWave.cells c.in_ok-turned.turned) c.d.inside.min c.d.inside.max c.args.d low high c.in_ok-turned.ensures)
    c.normal.ensures.wave
