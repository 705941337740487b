use Rattle.std.proofs.Common.{◌≡◌, ◌<◌, map, ◌∙◌, arith}
use Rattle.std.proofs.lemmas.Result.{IfOk-weaker}
use Rattle.wave_core.specs.Slots.{slots}
use Rattle.step_values.specs.Cell.{values}
use Rattle.skew_algebra.specs.Wave.{skewed}
use Rattle.gate_eval.specs.Meeting.{cells_in, folds_in, period_of, meeting}
use Rattle.gate_eval.proofs.Scanned.{meeting_one, meeting_more}
use Rattle.gate_eval.proofs.meeting.met_at_once.Goals as goal

pub returns-in-Some-clause-made : goal.returns-in-Some-clause-made
returns-in-Some-clause-made g c =
    IfOk-weaker c.by_slots.result
    (λ m. skewed (g.W.CyclicWave.cells m.wave) m.skew
    ≡ skewed (slots (period_of (map (λ p. p.wave) c.args.pins.now))
    (λ p. g.I.Image.value_of c.args.image.now (cells_in values (map (λ p. p.wave) c.args.pins.now) p))) c.in-Some.skew)
    (λ m. skewed (g.W.CyclicWave.cells m.wave) m.skew
    ≡ meeting values (g.I.Image.value_of c.args.image.now) (map (λ p. p.wave) c.args.pins.now))
    (λ m e. e
    ∙ meeting_one values (g.I.Image.value_of c.args.image.now) (map (λ p. p.wave) c.args.pins.now)
    c.in-Some.skew c.in-Some.ensures.kept)
    c.by_slots.ensures.made

pub returns-in-Some-clause-short : goal.returns-in-Some-clause-short
returns-in-Some-clause-short g c =
    let short = c.in-Some.ensures.short in
    IfOk-weaker c.by_slots.result (λ m. m.skew ≡ c.in-Some.skew) (λ m. m.skew < 4096) (λ m e. omega (arith, e, short)) c.by_slots.ensures.skew

pub returns-in_ok-folds-in-None-clause-made : goal.returns-in_ok-folds-in-None-clause-made
returns-in_ok-folds-in-None-clause-made g c =
    IfOk-weaker c.by_folds.result
    (λ m. skewed (g.W.CyclicWave.cells m.wave) m.skew
    ≡ skewed (slots (period_of (map (λ p. p.wave) c.args.pins.now))
    (λ p. g.I.Image.value_of c.args.image.now (folds_in values (map (λ p. p.wave) c.args.pins.now) p))) 0)
    (λ m. skewed (g.W.CyclicWave.cells m.wave) m.skew
    ≡ meeting values (g.I.Image.value_of c.args.image.now) (map (λ p. p.wave) c.args.pins.now))
    (λ m e. e
    ∙ meeting_more values (g.I.Image.value_of c.args.image.now) (map (λ p. p.wave) c.args.pins.now)
    c.in-None.ensures.kept)
    c.by_folds.ensures.made

pub returns-in_ok-folds-in-None-clause-short : goal.returns-in_ok-folds-in-None-clause-short
returns-in_ok-folds-in-None-clause-short g c =
    IfOk-weaker c.by_folds.result (λ m. m.skew ≡ 0) (λ m. m.skew < 4096) (λ m e. omega (arith, e)) c.by_folds.ensures.skew
