use Rattle.std.proofs.Common.{◌≡◌, ◌<◌, true, false, length, rules, arith, sym, ap, ◌∙◌, subst}
use Rattle.wave_core.specs.Slots.{slots}
use Rattle.skew_algebra.specs.Wave.{skewed, is_steady, joined, normal, IsNormal}
use Rattle.skew_algebra.proofs.Normal.{normal_steady, normal_moving, uniform_normal, moving_normal}
use Rattle.skew_algebra.proofs.Moves.{Permits_normal, keeps_by}
use Rattle.skew_algebra.proofs.skewed.Skewed.normal.Goals as goal

pub invariant_of-result : goal.invariant_of-result
invariant_of-result g c =
    let k = g.W.Item.Cell.kind in
    let cells = g.W.CyclicWave.cells c.args.wave in
    let some : 0 < length cells = let p = (g.met.W.CyclicWave.sized c.args.wave).shortest in omega (arith, p) in
    let same : g.W.CyclicWave.cells c.in_ok-steady.steady ≡ slots (length cells) (λ p. joined k cells) =
    c.in_ok-steady.ensures ∙ (λ i. slots (c.period-period.ensures i) (λ p. c.joined.ensures i)) in
    subst (λ l. IsNormal k (skewed l 0)) (sym same) (uniform_normal k g.met.W.Item.Cell.laws (length cells) (joined k cells) some)

pub returns-then-is_steady-clause-wave : goal.returns-then-is_steady-clause-wave
returns-then-is_steady-clause-wave g c =
    let k = g.W.Item.Cell.kind in
    let cells = g.W.CyclicWave.cells c.args.wave in
    let steady : is_steady k cells ≡ true = search rules in
    let same : g.W.CyclicWave.cells c.in_ok-steady.steady ≡ slots (length cells) (λ p. joined k cells) =
    c.in_ok-steady.ensures ∙ (λ i. slots (c.period-period.ensures i) (λ p. c.joined.ensures i)) in
    ap (λ l. skewed l 0) same ∙ sym (normal_steady k (skewed cells c.args.skew) steady)

pub returns-then-is_steady-clause-permits : goal.returns-then-is_steady-clause-permits
returns-then-is_steady-clause-permits g c =
    let k = g.W.Item.Cell.kind in
    let cells = g.W.CyclicWave.cells c.args.wave in
    let w = skewed cells c.args.skew in
    let some : 0 < length cells = let p = (g.met.W.CyclicWave.sized c.args.wave).shortest in omega (arith, p) in
    let steady : is_steady k cells ≡ true = search rules in
    let same : g.W.CyclicWave.cells c.in_ok-steady.steady ≡ slots (length cells) (λ p. joined k cells) =
    c.in_ok-steady.ensures ∙ (λ i. slots (c.period-period.ensures i) (λ p. c.joined.ensures i)) in
    keeps_by k w (normal k w) (skewed (g.W.CyclicWave.cells c.in_ok-steady.steady) 0)
    (ap (λ l. skewed l 0) same ∙ sym (normal_steady k w steady))
    (Permits_normal k g.met.W.Item.Cell.laws w some)

pub invariant_of-result-2 : goal.invariant_of-result-2
invariant_of-result-2 g c =
    let k = g.W.Item.Cell.kind in
    let cells = g.W.CyclicWave.cells c.args.wave in
    let some : 0 < length cells = let p = (g.met.W.CyclicWave.sized c.args.wave).shortest in omega (arith, p) in
    let moving : is_steady k cells ≡ false = search rules in
    subst (λ s. IsNormal k (skewed cells s)) (sym c.capped-skew.ensures) (moving_normal k g.met.W.Item.Cell.laws (skewed cells c.args.skew) some moving)

pub returns-clause-wave : goal.returns-clause-wave
returns-clause-wave g c =
    let k = g.W.Item.Cell.kind in
    let cells = g.W.CyclicWave.cells c.args.wave in
    let moving : is_steady k cells ≡ false = search rules in
    ap (skewed cells) c.capped-skew.ensures ∙ sym (normal_moving k (skewed cells c.args.skew) moving)

pub returns-clause-permits : goal.returns-clause-permits
returns-clause-permits g c =
    let k = g.W.Item.Cell.kind in
    let cells = g.W.CyclicWave.cells c.args.wave in
    let w = skewed cells c.args.skew in
    let some : 0 < length cells = let p = (g.met.W.CyclicWave.sized c.args.wave).shortest in omega (arith, p) in
    let moving : is_steady k cells ≡ false = search rules in
    keeps_by k w (normal k w) (skewed cells c.capped-skew.result)
    (ap (skewed cells) c.capped-skew.ensures ∙ sym (normal_moving k w moving))
    (Permits_normal k g.met.W.Item.Cell.laws w some)
