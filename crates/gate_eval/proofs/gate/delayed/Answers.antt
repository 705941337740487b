use Rattle.std.proofs.Common.{◌≡◌, map, ap, ◌∙◌}
use Rattle.std.specs.List.{position}
use Rattle.std.proofs.lemmas.Result.{IfOk-weaker}
use Rattle.step_values.specs.Cell.{values}
use Rattle.skew_algebra.specs.Wave.{Wave, skewed, moved}
use Rattle.gate_eval.specs.Instance.{gate_wave}
use Rattle.gate_eval.proofs.Chosen.{delayed_is}
use Rattle.gate_eval.proofs.gate.delayed.Goals as goal

pub returns : goal.returns
returns g c =
    IfOk-weaker c.late.result
    (λ s. s ≡ moved values (skewed (g.W.CyclicWave.cells c.in_ok-made.made.wave) c.in_ok-made.made.skew) c.args.d)
    (λ s. s ≡ gate_wave c.args.kind (map (λ p. p.wave) c.args.pins.now) (position (λ p. p.hold) c.args.pins.now) c.args.d)
    (λ s e. e ∙ ap (λ (w : Wave _). moved values w c.args.d) c.in_ok-made.ensures.made
    ∙ delayed_is c.args.kind (map (λ p. p.wave) c.args.pins.now) (position (λ p. p.hold) c.args.pins.now) c.args.d c.requires.gate)
    c.late.ensures
