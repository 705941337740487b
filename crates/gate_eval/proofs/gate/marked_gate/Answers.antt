use Rattle.std.proofs.Common.{◌≡◌, Some, None, map, get_or, rules, sym, ap, ◌∙◌}
use Rattle.std.proofs.lemmas.Result.{IfOk-weaker}
use Rattle.std.proofs.lemmas.List.{get_or-map}
use Rattle.wave_core.specs.Slots.{slots}
use Rattle.step_values.specs.Cell.{values}
use Rattle.skew_algebra.specs.Wave.{skewed}
use Rattle.gate_eval.specs.Meeting.{cells_in, folds_in, period_of}
use Rattle.gate_eval.specs.Hold.{hazard}
use Rattle.gate_eval.specs.Instance.{image_by, held_wave}
use Rattle.gate_eval.proofs.Gathered.{period_any, folded_long}
use Rattle.gate_eval.proofs.Scanned.{meeting_one, meeting_more}
use Rattle.gate_eval.proofs.Chosen.{held_none, disturbed_met}
use Rattle.gate_eval.proofs.gate.marked_gate.Goals as goal

pub is_held-requires-clause-period : goal.is_held-requires-clause-period
is_held-requires-clause-period g c =
    folded_long values c.deref.result.now c.args.pins.now g.W.CyclicWave.cells (λ p. p.wave) c.period.result (search rules)
    (sym (c.period.ensures ∙ period_any c.args.pins.now c.args.marked c.index-pins-marked.result (λ p. p.wave) c.requires.marked c.requires.periods))
    c.requires.periods

pub returns-then-is_held-clause-made : goal.returns-then-is_held-clause-made
returns-then-is_held-clause-made g c =
    let period : c.period.result ≡ period_of (map (λ p. p.wave) c.args.pins.now) =
    c.period.ensures ∙ period_any c.args.pins.now c.args.marked c.index-pins-marked.result (λ p. p.wave) c.requires.marked c.requires.periods in
    let none : None ≡ hazard c.args.kind (map (λ p. p.wave) c.args.pins.now) (Some c.args.marked) =
    held_none c.deref.result.now c.args.pins.now g.W.CyclicWave.cells (λ p. p.wave) c.args.kind c.args.marked c.period.result (search rules) c.requires.periods period
    (sym c.is_held.ensures ∙ c.if-is_held.true) in
    IfOk-weaker c.passing.result
    (λ m. skewed (g.W.CyclicWave.cells m.wave) m.skew
    ≡ held_wave (g.I.Image.value_of c.args.image.now) (get_or c.args.pins.now c.args.marked c.index-pins-marked-then-is_held.result).wave)
    (λ m. skewed (g.W.CyclicWave.cells m.wave) m.skew ≡ image_by (g.I.Image.value_of c.args.image.now)
    (map (λ p. p.wave) c.args.pins.now) (Some c.args.marked) (hazard c.args.kind (map (λ p. p.wave) c.args.pins.now) (Some c.args.marked)))
    (λ s e. e
    ∙ ap (λ w. held_wave (g.I.Image.value_of c.args.image.now) w)
    (sym (get_or-map (λ p. p.wave) c.args.pins.now c.args.marked c.index-pins-marked-then-is_held.result (skewed _ 0) c.requires.marked))
    ∙ ap (λ h. image_by (g.I.Image.value_of c.args.image.now) (map (λ p. p.wave) c.args.pins.now) (Some c.args.marked) h) none)
    c.passing.ensures.made

pub returns-in-Some-clause-made : goal.returns-in-Some-clause-made
returns-in-Some-clause-made g c =
    let period : c.period.result ≡ period_of (map (λ p. p.wave) c.args.pins.now) =
    c.period.ensures ∙ period_any c.args.pins.now c.args.marked c.index-pins-marked.result (λ p. p.wave) c.requires.marked c.requires.periods in
    IfOk-weaker c.by_slots.result
    (λ m. skewed (g.W.CyclicWave.cells m.wave) m.skew
    ≡ skewed (slots (period_of (map (λ p. p.wave) c.args.pins.now)) (λ p. (g.I.Image.value_of c.args.image.now) (cells_in values (map (λ p. p.wave) c.args.pins.now) p))) c.in-Some.skew)
    (λ m. skewed (g.W.CyclicWave.cells m.wave) m.skew ≡ image_by (g.I.Image.value_of c.args.image.now)
    (map (λ p. p.wave) c.args.pins.now) (Some c.args.marked) (hazard c.args.kind (map (λ p. p.wave) c.args.pins.now) (Some c.args.marked)))
    (λ s e. e
    ∙ (meeting_one values (g.I.Image.value_of c.args.image.now) (map (λ p. p.wave) c.args.pins.now) c.in-Some.skew c.in-Some.ensures.kept
    ∙ disturbed_met c.deref.result.now c.args.pins.now g.W.CyclicWave.cells (λ p. p.wave) c.args.kind
    c.args.marked c.period.result (search rules) c.requires.periods period (g.I.Image.value_of c.args.image.now)
    (sym c.is_held.ensures ∙ c.if-is_held.false)))
    c.by_slots.ensures.made

pub returns-clause-made : goal.returns-clause-made
returns-clause-made g c =
    let period : c.period.result ≡ period_of (map (λ p. p.wave) c.args.pins.now) =
    c.period.ensures ∙ period_any c.args.pins.now c.args.marked c.index-pins-marked.result (λ p. p.wave) c.requires.marked c.requires.periods in
    IfOk-weaker c.by_folds.result
    (λ m. skewed (g.W.CyclicWave.cells m.wave) m.skew
    ≡ skewed (slots (period_of (map (λ p. p.wave) c.args.pins.now)) (λ p. (g.I.Image.value_of c.args.image.now) (folds_in values (map (λ p. p.wave) c.args.pins.now) p))) 0)
    (λ m. skewed (g.W.CyclicWave.cells m.wave) m.skew ≡ image_by (g.I.Image.value_of c.args.image.now)
    (map (λ p. p.wave) c.args.pins.now) (Some c.args.marked) (hazard c.args.kind (map (λ p. p.wave) c.args.pins.now) (Some c.args.marked)))
    (λ s e. e
    ∙ (meeting_more values (g.I.Image.value_of c.args.image.now) (map (λ p. p.wave) c.args.pins.now) c.in-None.ensures.kept
    ∙ disturbed_met c.deref.result.now c.args.pins.now g.W.CyclicWave.cells (λ p. p.wave) c.args.kind
    c.args.marked c.period.result (search rules) c.requires.periods period (g.I.Image.value_of c.args.image.now)
    (sym c.is_held.ensures ∙ c.if-is_held.false)))
    c.by_folds.ensures.made
