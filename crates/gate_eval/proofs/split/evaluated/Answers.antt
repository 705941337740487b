use Rattle.std.proofs.Common.{◌≡◌, map, ◌∙◌}
use Rattle.std.specs.List.{position}
use Rattle.std.proofs.lemmas.Result.{IfOk-weaker}
use Rattle.step_values.specs.Cell.{values}
use Rattle.skew_algebra.specs.Wave.{skewed, normal}
use Rattle.gate_eval.specs.Split.{split_wave}
use Rattle.gate_eval.proofs.SplitSlots.{split_by}
use Rattle.gate_eval.proofs.split.evaluated.Goals as goal

pub returns : goal.returns
returns g c =
    IfOk-weaker c.normal.result
    (λ r. r ≡ normal values (skewed (g.W.CyclicWave.cells c.in_ok-late.late) c.in_ok-made.made.skew))
    (λ r. r ≡ split_wave c.args.kind (map (λ p. p.wave) c.args.pins.now) (position (λ p. p.hold) c.args.pins.now) c.args.s.now)
    (λ r e. e ∙ split_by c.args.kind (map (λ p. p.wave) c.args.pins.now) (position (λ p. p.hold) c.args.pins.now) c.args.s.now
    (g.W.CyclicWave.cells c.in_ok-made.made.wave) (g.W.CyclicWave.cells c.in_ok-late.late) c.in_ok-made.made.skew
    c.in_ok-late.ensures c.in_ok-made.ensures.made)
    c.normal.ensures.wave
