use Rattle.std.proofs.Common.{◌≡◌, map, ap, ◌∙◌}
use Rattle.std.proofs.lemmas.Result.{IfOk-weaker}
use Rattle.step_values.specs.Cell.{values}
use Rattle.skew_algebra.specs.Wave.{Wave, skewed, moved}
use Rattle.gate_eval.specs.Meeting.{meeting}
use Rattle.gate_eval.proofs.meeting.met.Goals as goal

pub returns : goal.returns
returns g c =
    IfOk-weaker c.late.result
    (λ s. s ≡ moved values (skewed (g.W.CyclicWave.cells c.in_ok-made.made.wave) c.in_ok-made.made.skew) c.args.d)
    (λ s. s
    ≡ moved values (meeting values (g.I.Image.value_of c.args.image.now) (map (λ p. p.wave) c.args.pins.now)) c.args.d)
    (λ s e. e ∙ ap (λ (w : Wave _). moved values w c.args.d) c.in_ok-made.ensures.made)
    c.late.ensures
