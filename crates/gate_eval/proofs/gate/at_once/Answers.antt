use Rattle.std.proofs.Common.{◌≡◌, List, map, sym, ap, ◌∙◌}
use Rattle.std.specs.List.{position}
use Rattle.std.proofs.lemmas.Result.{IfOk-weaker}
use Rattle.step_values.specs.declared.value.Value.{Value}
use Rattle.step_values.specs.Cell.{values}
use Rattle.step_values.specs.Image.{mux2_of}
use Rattle.step_values.specs.Table.{entry2}
use Rattle.skew_algebra.specs.Wave.{skewed}
use Rattle.gate_eval.specs.Meeting.{meeting}
use Rattle.gate_eval.specs.Gates.{gate_value, passed_on, from_left, of_two, of_four, of_eight}
use Rattle.gate_eval.specs.Hold.{hazard}
use Rattle.gate_eval.specs.Instance.{image_by, gate_image}
use Rattle.gate_eval.proofs.Chosen.{is_plain, plain_is, is_markable, markable_is}
use Rattle.gate_eval.proofs.gate.at_once.Goals as goal

pub returns-in-Buf-clause-made : goal.returns-in-Buf-clause-made
returns-in-Buf-clause-made g c =
    let image : List Value → Value = λ found. passed_on found in
    let same : image ≡ gate_value c.args.kind = (λ i found. passed_on found) ∙ ap gate_value (sym c.in-Buf.is) in
    IfOk-weaker c.met_at_once.result
    (λ m. skewed (g.W.CyclicWave.cells m.wave) m.skew ≡ meeting values image (map (λ p. p.wave) c.args.pins.now))
    (λ m. skewed (g.W.CyclicWave.cells m.wave) m.skew ≡ gate_image c.args.kind (map (λ p. p.wave) c.args.pins.now) (position (λ p. p.hold) c.args.pins.now))
    (λ s e. e ∙ plain_is c.args.kind image (map (λ p. p.wave) c.args.pins.now) (position (λ p. p.hold) c.args.pins.now) _ same (ap is_plain c.in-Buf.is) c.requires.mark)
    c.met_at_once.ensures.made

pub returns-in-And-clause-made : goal.returns-in-And-clause-made
returns-in-And-clause-made g c =
    let image : List Value → Value = λ found. from_left (entry2 c.and2.result.entries) found in
    let same : image ≡ gate_value c.args.kind = (λ i found. from_left (λ v w. c.and2.ensures v w i) found) ∙ ap gate_value (sym c.in-And.is) in
    IfOk-weaker c.markable_gate.result
    (λ m. skewed (g.W.CyclicWave.cells m.wave) m.skew ≡ image_by image (map (λ p. p.wave) c.args.pins.now)
    (position (λ p. p.hold) c.args.pins.now) (hazard c.args.kind (map (λ p. p.wave) c.args.pins.now) (position (λ p. p.hold) c.args.pins.now)))
    (λ m. skewed (g.W.CyclicWave.cells m.wave) m.skew ≡ gate_image c.args.kind (map (λ p. p.wave) c.args.pins.now) (position (λ p. p.hold) c.args.pins.now))
    (λ s e. e ∙ markable_is c.args.kind image (map (λ p. p.wave) c.args.pins.now) (position (λ p. p.hold) c.args.pins.now) same (ap is_markable c.in-And.is))
    c.markable_gate.ensures.made

pub returns-in-Or-clause-made : goal.returns-in-Or-clause-made
returns-in-Or-clause-made g c =
    let image : List Value → Value = λ found. from_left (entry2 c.or2.result.entries) found in
    let same : image ≡ gate_value c.args.kind = (λ i found. from_left (λ v w. c.or2.ensures v w i) found) ∙ ap gate_value (sym c.in-Or.is) in
    IfOk-weaker c.markable_gate-in-Or.result
    (λ m. skewed (g.W.CyclicWave.cells m.wave) m.skew ≡ image_by image (map (λ p. p.wave) c.args.pins.now)
    (position (λ p. p.hold) c.args.pins.now) (hazard c.args.kind (map (λ p. p.wave) c.args.pins.now) (position (λ p. p.hold) c.args.pins.now)))
    (λ m. skewed (g.W.CyclicWave.cells m.wave) m.skew ≡ gate_image c.args.kind (map (λ p. p.wave) c.args.pins.now) (position (λ p. p.hold) c.args.pins.now))
    (λ s e. e ∙ markable_is c.args.kind image (map (λ p. p.wave) c.args.pins.now) (position (λ p. p.hold) c.args.pins.now) same (ap is_markable c.in-Or.is))
    c.markable_gate-in-Or.ensures.made

pub returns-in-Xor-clause-made : goal.returns-in-Xor-clause-made
returns-in-Xor-clause-made g c =
    let image : List Value → Value = λ found. from_left (entry2 c.xor2.result.entries) found in
    let same : image ≡ gate_value c.args.kind = (λ i found. from_left (λ v w. c.xor2.ensures v w i) found) ∙ ap gate_value (sym c.in-Xor.is) in
    IfOk-weaker c.met_at_once-in-Xor.result
    (λ m. skewed (g.W.CyclicWave.cells m.wave) m.skew ≡ meeting values image (map (λ p. p.wave) c.args.pins.now))
    (λ m. skewed (g.W.CyclicWave.cells m.wave) m.skew ≡ gate_image c.args.kind (map (λ p. p.wave) c.args.pins.now) (position (λ p. p.hold) c.args.pins.now))
    (λ s e. e ∙ plain_is c.args.kind image (map (λ p. p.wave) c.args.pins.now) (position (λ p. p.hold) c.args.pins.now) _ same (ap is_plain c.in-Xor.is) c.requires.mark)
    c.met_at_once-in-Xor.ensures.made

pub returns-in-Mux2-clause-made : goal.returns-in-Mux2-clause-made
returns-in-Mux2-clause-made g c =
    let image : List Value → Value = λ found. of_two mux2_of found in
    let same : image ≡ gate_value c.args.kind = (λ i found. of_two mux2_of found) ∙ ap gate_value (sym c.in-Mux2.is) in
    IfOk-weaker c.met_at_once-in-Mux2.result
    (λ m. skewed (g.W.CyclicWave.cells m.wave) m.skew ≡ meeting values image (map (λ p. p.wave) c.args.pins.now))
    (λ m. skewed (g.W.CyclicWave.cells m.wave) m.skew ≡ gate_image c.args.kind (map (λ p. p.wave) c.args.pins.now) (position (λ p. p.hold) c.args.pins.now))
    (λ s e. e ∙ plain_is c.args.kind image (map (λ p. p.wave) c.args.pins.now) (position (λ p. p.hold) c.args.pins.now) _ same (ap is_plain c.in-Mux2.is) c.requires.mark)
    c.met_at_once-in-Mux2.ensures.made

pub returns-in-Mux4-clause-made : goal.returns-in-Mux4-clause-made
returns-in-Mux4-clause-made g c =
    let image : List Value → Value = λ found. of_four mux2_of found in
    let same : image ≡ gate_value c.args.kind = (λ i found. of_four mux2_of found) ∙ ap gate_value (sym c.in-Mux4.is) in
    IfOk-weaker c.met_at_once-in-Mux4.result
    (λ m. skewed (g.W.CyclicWave.cells m.wave) m.skew ≡ meeting values image (map (λ p. p.wave) c.args.pins.now))
    (λ m. skewed (g.W.CyclicWave.cells m.wave) m.skew ≡ gate_image c.args.kind (map (λ p. p.wave) c.args.pins.now) (position (λ p. p.hold) c.args.pins.now))
    (λ s e. e ∙ plain_is c.args.kind image (map (λ p. p.wave) c.args.pins.now) (position (λ p. p.hold) c.args.pins.now) _ same (ap is_plain c.in-Mux4.is) c.requires.mark)
    c.met_at_once-in-Mux4.ensures.made

pub returns-in-Mux8-clause-made : goal.returns-in-Mux8-clause-made
returns-in-Mux8-clause-made g c =
    let image : List Value → Value = λ found. of_eight mux2_of found in
    let same : image ≡ gate_value c.args.kind = (λ i found. of_eight mux2_of found) ∙ ap gate_value (sym c.in-Mux8.is) in
    IfOk-weaker c.met_at_once-in-Mux8.result
    (λ m. skewed (g.W.CyclicWave.cells m.wave) m.skew ≡ meeting values image (map (λ p. p.wave) c.args.pins.now))
    (λ m. skewed (g.W.CyclicWave.cells m.wave) m.skew ≡ gate_image c.args.kind (map (λ p. p.wave) c.args.pins.now) (position (λ p. p.hold) c.args.pins.now))
    (λ s e. e ∙ plain_is c.args.kind image (map (λ p. p.wave) c.args.pins.now) (position (λ p. p.hold) c.args.pins.now) _ same (ap is_plain c.in-Mux8.is) c.requires.mark)
    c.met_at_once-in-Mux8.ensures.made
