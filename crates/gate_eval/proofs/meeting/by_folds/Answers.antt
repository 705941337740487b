use Rattle.std.proofs.Common.{ap, sym, ◌∙◌}
use Rattle.step_values.specs.Cell.{values}
use Rattle.skew_algebra.specs.Wave.{skewed}
use Rattle.gate_eval.proofs.Gathered.{period_first, folded_long, folded_image}
use Rattle.gate_eval.proofs.meeting.by_folds.Goals as goal

pub imaged-requires-clause-waves : goal.imaged-requires-clause-waves
imaged-requires-clause-waves g c =
    folded_long values c.args.folds.now c.args.pins.now g.W.CyclicWave.cells (λ p. p.wave)
    c.period.result c.requires.folds
    (period_first c.args.pins.now c.index-pins-0.result (λ p. p.wave) c.requires.some ∙ sym c.period.ensures)
    c.requires.periods

pub returns-clause-made : goal.returns-clause-made
returns-clause-made g c =
    ap (λ l. skewed l 0)
    (c.in_ok-made.ensures
    ∙ folded_image values c.args.folds.now c.args.pins.now g.W.CyclicWave.cells (λ p. p.wave)
    (g.I.Image.value_of c.args.image.now) c.period.result c.requires.folds
    (period_first c.args.pins.now c.index-pins-0.result (λ p. p.wave) c.requires.some ∙ sym c.period.ensures)
    c.requires.periods)
