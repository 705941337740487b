use Rattle.std.proofs.Common.{◌≡◌, ◌<◌, ◌+◌, ◌-◌, length, rules, arith, ap, ◌∙◌, subst}
use Rattle.std.proofs.lemmas.Result.{IfOk-weaker}
use Rattle.skew_algebra.specs.Permits.{KeepsMoved}
use Rattle.skew_algebra.specs.Wave.{skewed, normal, moved}
use Rattle.skew_algebra.proofs.Moves.{Permits_moved, keeps_moved_by}
use Rattle.skew_algebra.proofs.Normal.{moved_by}
use Rattle.skew_algebra.proofs.skewed.Skewed.moved.Goals as goal

pub returns-clause-wave : goal.returns-clause-wave
returns-clause-wave g c =
    let k = g.W.Item.Cell.kind in
    let w = skewed (g.W.CyclicWave.cells c.self.inside.wave) c.self.inside.skew in
    let skew = c.self.inside.skew + (c.d.inside.max - c.d.inside.min) in
    let low : c.d.inside.min ≡ c.args.d.min = search rules in
    let high : c.d.inside.max ≡ c.args.d.max = search rules in
    IfOk-weaker c.normal.result
    (λ s. s ≡ normal k (skewed (g.W.CyclicWave.cells c.in_ok-wave.wave) skew))
    (λ s. s ≡ moved k c.args.self.now c.args.d)
    (λ s e. e ∙ moved_by k w (g.W.CyclicWave.cells c.in_ok-wave.wave) c.d.inside.min c.d.inside.max c.args.d low high c.in_ok-wave.ensures
    ∙ ap (λ v. moved k v c.args.d) c.self.view_is)
    c.normal.ensures.wave

pub returns-clause-permits : goal.returns-clause-permits
returns-clause-permits g c =
    let k = g.W.Item.Cell.kind in
    let cells = g.W.CyclicWave.cells c.self.inside.wave in
    let w = skewed cells c.self.inside.skew in
    let skew = c.self.inside.skew + (c.d.inside.max - c.d.inside.min) in
    let some : 0 < length cells = let p = (g.met.W.CyclicWave.sized c.self.inside.wave).shortest in omega (arith, p) in
    let low : c.d.inside.min ≡ c.args.d.min = search rules in
    let high : c.d.inside.max ≡ c.args.d.max = search rules in
    IfOk-weaker c.normal.result
    (λ s. s ≡ normal k (skewed (g.W.CyclicWave.cells c.in_ok-wave.wave) skew))
    (λ s. KeepsMoved k c.args.self.now s c.args.d)
    (λ s e. subst (λ v. KeepsMoved k v s c.args.d) c.self.view_is
    (keeps_moved_by k w (moved k w c.args.d) s c.args.d
    (e ∙ moved_by k w (g.W.CyclicWave.cells c.in_ok-wave.wave) c.d.inside.min c.d.inside.max c.args.d low high c.in_ok-wave.ensures)
    (Permits_moved k g.met.W.Item.Cell.laws w c.args.d some)))
    c.normal.ensures.wave
