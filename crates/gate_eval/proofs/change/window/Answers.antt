use Rattle.std.proofs.Common.{◌≡◌, ◌+◌, ◌-◌, ◌≤◌, min, length, rules, arith, ap, ◌∙◌}
use Rattle.std.proofs.lemmas.Result.{IfOk-weaker}
use Rattle.wave_core.specs.Slots.{slots, folded}
use Rattle.step_values.specs.Cell.{values}
use Rattle.skew_algebra.specs.Wave.{skewed}
use Rattle.skew_algebra.proofs.Moves.{length_later}
use Rattle.gate_eval.specs.Window.{window}
use Rattle.gate_eval.proofs.Seen.{window_by}
use Rattle.gate_eval.proofs.change.window.Goals as goal

pub fold-requires : goal.fold-requires
fold-requires g c =
    let long : length (g.W.CyclicWave.cells c.in_ok-turned.turned) ≡ length (g.W.CyclicWave.cells c.args.wave.now) =
    ap length c.in_ok-turned.ensures ∙ length_later values (g.W.CyclicWave.cells c.args.wave.now) c.d.inside.min in
    let some : 2 ≤ length (g.W.CyclicWave.cells c.args.wave.now) = (g.met.W.CyclicWave.sized c.args.wave.now).shortest in
    let back : c.min-back.result ≡ min (c.args.skew + (c.d.inside.max - c.d.inside.min)) (c.period.result - 1) = grind arith in
    omega (arith, long, some, back, c.period.ensures)

pub returns : goal.returns
returns g c =
    let low : c.d.inside.min ≡ c.args.d.min = search rules in
    let high : c.d.inside.max ≡ c.args.d.max = search rules in
    let back : c.min-back.result ≡ min (c.args.skew + (c.d.inside.max - c.d.inside.min)) (c.period.result - 1) = grind arith in
    IfOk-weaker c.fold.result
    (λ w. g.W.CyclicWave.cells w ≡ folded values (g.W.CyclicWave.cells c.in_ok-turned.turned) c.min-back.result)
    (λ w. g.W.CyclicWave.cells w ≡ slots (length (g.W.CyclicWave.cells c.args.wave.now)) (window (skewed (g.W.CyclicWave.cells c.args.wave.now) c.args.skew) c.args.d))
    (λ w e. window_by (skewed (g.W.CyclicWave.cells c.args.wave.now) c.args.skew) c.args.d (g.W.CyclicWave.cells c.in_ok-turned.turned)
    c.d.inside.min c.d.inside.max c.min-back.result c.period.result (g.W.CyclicWave.cells w) low high c.period.ensures c.in_ok-turned.ensures back e)
    c.fold.ensures
