use Rattle.std.proofs.Common.{◌≡◌, List, map, sym, ap, ◌∙◌}
use Rattle.std.specs.List.{position}
use Rattle.std.proofs.lemmas.Result.{IfOk-weaker}
use Rattle.step_values.specs.declared.value.Value.{Value}
use Rattle.step_values.specs.Cell.{values}
use Rattle.skew_algebra.specs.Wave.{Wave, moved, normal}
use Rattle.element_kinds.specs.Kinds.{may_split}
use Rattle.gate_eval.specs.Meeting.{meeting}
use Rattle.gate_eval.specs.Gates.{gate_value, passed_on}
use Rattle.gate_eval.specs.Change.{change_wave}
use Rattle.gate_eval.specs.Instance.{gate_wave}
use Rattle.gate_eval.proofs.Chosen.{is_plain, plain_is, delayed_is, change_is}
use Rattle.gate_eval.proofs.gate.evaluated.Goals as goal

pub returns-in-Buf : goal.returns-in-Buf
returns-in-Buf g c =
    let image : List Value → Value = λ found. passed_on found in
    let same : image ≡ gate_value c.args.kind = (λ i found. passed_on found) ∙ ap gate_value (sym c.in-Buf.is) in
    IfOk-weaker c.buffered.result
    (λ s. s ≡ moved values (meeting values image (map (λ p. p.wave) c.args.pins.now)) c.args.d)
    (λ s. s ≡ gate_wave c.args.kind (map (λ p. p.wave) c.args.pins.now) (position (λ p. p.hold) c.args.pins.now) c.args.d)
    (λ s e. e
    ∙ ap (λ (w : Wave _). moved values w c.args.d)
    (plain_is c.args.kind image (map (λ p. p.wave) c.args.pins.now) (position (λ p. p.hold) c.args.pins.now) _ same (ap is_plain c.in-Buf.is) c.requires.mark)
    ∙ delayed_is c.args.kind (map (λ p. p.wave) c.args.pins.now) (position (λ p. p.hold) c.args.pins.now) c.args.d (ap may_split c.in-Buf.is))
    c.buffered.ensures

pub returns-in-Chg : goal.returns-in-Chg
returns-in-Chg g c =
    IfOk-weaker c.change_wave.result
    (λ s. s ≡ normal values (change_wave (map (λ p. p.wave) c.args.pins.now) c.args.d))
    (λ s. s ≡ gate_wave c.args.kind (map (λ p. p.wave) c.args.pins.now) (position (λ p. p.hold) c.args.pins.now) c.args.d)
    (λ s e. e ∙ change_is c.args.kind (map (λ p. p.wave) c.args.pins.now) (position (λ p. p.hold) c.args.pins.now) c.args.d c.in-Chg.is)
    c.change_wave.ensures
