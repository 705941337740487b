use Rattle.std.proofs.Common.{◌≡◌, map, get_or, ap, ◌∙◌}
use Rattle.std.proofs.lemmas.Result.{IfOk-weaker}
use Rattle.step_values.specs.Cell.{values}
use Rattle.skew_algebra.specs.Wave.{Wave, moved}
use Rattle.gate_eval.specs.Meeting.{meeting}
use Rattle.gate_eval.specs.Gates.{passed_on}
use Rattle.gate_eval.proofs.Passed.{passed_one}
use Rattle.gate_eval.proofs.gate.passed.Goals as goal

pub returns : goal.returns
returns g c =
    IfOk-weaker c.moved.result
    (λ s. s
    ≡ moved values (get_or c.args.pins.now 0 c.index-pins-0.result).wave c.args.d)
    (λ s. s
    ≡ moved values (meeting values passed_on (map (λ p. p.wave) c.args.pins.now)) c.args.d)
    (λ s e. e ∙ ap (λ (w : Wave _). moved values w c.args.d)
    (passed_one c.args.pins.now c.index-pins-0.result (λ p. p.wave) c.requires (λ p. p.normal)))
    c.moved.ensures.wave
