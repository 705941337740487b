use Rattle.std.proofs.Common.{◌≡◌, ◌<◌, length, map, rules, arith, sym, ap, ◌∙◌, subst}
use Rattle.wave_core.proofs.Slots.{mapped}
use Rattle.skew_algebra.specs.Permits.{KeepsFlipped}
use Rattle.skew_algebra.specs.Wave.{skewed, flipped, IsNormal}
use Rattle.skew_algebra.proofs.Normal.{flipped_normal}
use Rattle.skew_algebra.proofs.Moves.{Permits_flipped, keeps_flipped_by}
use Rattle.skew_algebra.proofs.skewed.Skewed.flipped.Goals as goal

pub invariant_of-result : goal.invariant_of-result
invariant_of-result g c =
    let k = g.W.Item.Cell.kind in
    let cells = g.W.CyclicWave.cells c.self.inside.wave in
    let same : g.W.CyclicWave.cells c.in_ok-wave.wave ≡ map k.flip cells =
    mapped _ k.flip cells (g.W.CyclicWave.cells c.in_ok-wave.wave) (λ x y h. search rules) c.in_ok-wave.ensures in
    subst (λ l. IsNormal k (skewed l c.self.inside.skew)) (sym same)
    (flipped_normal k g.met.W.Item.Cell.laws (skewed cells c.self.inside.skew) c.self.invariant)

pub returns-clause-wave : goal.returns-clause-wave
returns-clause-wave g c =
    let k = g.W.Item.Cell.kind in
    let cells = g.W.CyclicWave.cells c.self.inside.wave in
    let same : g.W.CyclicWave.cells c.in_ok-wave.wave ≡ map k.flip cells =
    mapped _ k.flip cells (g.W.CyclicWave.cells c.in_ok-wave.wave) (λ x y h. search rules) c.in_ok-wave.ensures in
    ap (λ l. skewed l c.self.inside.skew) same ∙ ap (flipped k) c.self.view_is

pub returns-clause-permits : goal.returns-clause-permits
returns-clause-permits g c =
    let k = g.W.Item.Cell.kind in
    let cells = g.W.CyclicWave.cells c.self.inside.wave in
    let w = skewed cells c.self.inside.skew in
    let some : 0 < length cells = let p = (g.met.W.CyclicWave.sized c.self.inside.wave).shortest in omega (arith, p) in
    let same : g.W.CyclicWave.cells c.in_ok-wave.wave ≡ map k.flip cells =
    mapped _ k.flip cells (g.W.CyclicWave.cells c.in_ok-wave.wave) (λ x y h. search rules) c.in_ok-wave.ensures in
    let late = skewed (g.W.CyclicWave.cells c.in_ok-wave.wave) c.self.inside.skew in
    subst (λ v. KeepsFlipped k v late) c.self.view_is
    (keeps_flipped_by k w (flipped k w) late (ap (λ l. skewed l c.self.inside.skew) same)
    (Permits_flipped k g.met.W.Item.Cell.laws w some))
