use Rattle.std.proofs.Common.{◌≡◌, ◌≤◌, length, map, arith, ap, ◌∙◌}
use Rattle.std.proofs.lemmas.Result.{IfOk-weaker}
use Rattle.step_values.specs.Cell.{values}
use Rattle.skew_algebra.specs.Wave.{skewed, normal}
use Rattle.gate_eval.specs.Change.{change_wave}
use Rattle.gate_eval.proofs.Gathered.{some_period}
use Rattle.gate_eval.proofs.Seen.{changes_by}
use Rattle.gate_eval.proofs.change.change_wave.Goals as goal

pub returns : goal.returns
returns g c =
    IfOk-weaker c.normal.result
    (λ s. s ≡ normal values (skewed (g.W.CyclicWave.cells c.in_ok-changes.changes) 0))
    (λ s. s ≡ normal values (change_wave (map (λ p. p.wave) c.args.pins.now) c.args.d))
    (λ s e. e ∙ ap (normal values)
    (changes_by (map (λ p. p.wave) c.args.pins.now) c.args.d
    (g.W.CyclicWave.cells c.in_ok-seen.seen) (g.W.CyclicWave.cells c.in_ok-changes.changes)
    (some_period c.args.pins.now (λ p. p.wave) c.requires.some
    (λ p. let s : 2 ≤ length p.wave.cells = p.sized.shortest in omega arith))
    c.requires.periods c.in_ok-seen.ensures c.in_ok-changes.ensures))
    c.normal.ensures.wave
