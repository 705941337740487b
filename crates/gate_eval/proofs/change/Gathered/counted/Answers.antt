use Rattle.std.proofs.Common.{◌≡◌, ◌∙◌, ◌<◌, List, length, map, rules, arith, ap}
use Rattle.std.specs.List.{zip}
use Rattle.step_values.specs.declared.value.Value.{Value}
use Rattle.step_values.specs.Steps.{join}
use Rattle.skew_algebra.specs.Wave.{skewed}
use Rattle.gate_eval.proofs.Gathering.{counts_apart, counts_equal, counts_joined}
use Rattle.gate_eval.proofs.change.Gathered.counted.Goals as goal

pub returns-then-skew-self : goal.returns-then-skew-self
returns-then-skew-self g c =
    let short : c.args.pin.now.skew < 4096 =
    let less = c.known.ensures.normal.short in
    let most = c.known.ensures.sized.longest in
    omega (arith, less, most) in
    let cells = c.in_ok-last.ensures ∙ c.wave-cells.ensures in
    counts_apart c.args.pin.now (skewed (g.W.CyclicWave.cells c.args.self.last) c.args.self.skew)
    (skewed (g.W.CyclicWave.cells c.in_ok-last.last) c.skew-skew.result) c.args.d
    (g.W.CyclicWave.cells c.args.self.seen) (g.W.CyclicWave.cells c.in_ok-seen.seen) c.requires.pin short c.in_ok-seen.ensures
    (λ i. skewed (cells i) (c.skew-skew.ensures i))

pub returns-then-equal : goal.returns-then-equal
returns-then-equal g c =
    let own : g.W.CyclicWave.cells c.args.self.last ≡ g.W.CyclicWave.cells c.wave-cells.result.now = search rules in
    let cells = own ∙ c.wave-cells.ensures in
    let skew : c.args.self.skew ≡ c.args.pin.now.skew = omega (arith, c.skew-skew.ensures) in
    counts_equal c.args.pin.now (skewed (g.W.CyclicWave.cells c.args.self.last) c.args.self.skew)
    c.args.d (g.W.CyclicWave.cells c.args.self.seen) c.requires.short (λ i. skewed (cells i) (skew i))

pub returns : goal.returns
returns g c =
    let skew : c.args.pin.now.skew ≡ c.args.self.skew = omega (arith, c.skew-skew.ensures) in
    let late : c.skew-skew.result ≡ c.args.self.skew = c.skew-skew.ensures ∙ skew in
    let own = g.W.CyclicWave.cells c.args.self.last in
    let cells = c.in_ok-last-2.ensures ∙ ap (λ (l : List Value). map (λ (q : Value × Value). join q.0 q.1) (zip own l)) c.wave-cells.ensures in
    let some : 0 < length (g.W.CyclicWave.cells c.args.self.last) = let s = (g.met.W.CyclicWave.sized c.args.self.last).shortest in omega (arith, s) in
    counts_joined c.args.pin.now (skewed (g.W.CyclicWave.cells c.args.self.last) c.args.self.skew)
    (skewed (g.W.CyclicWave.cells c.in_ok-last-2.last) c.skew-skew.result) c.args.d (g.W.CyclicWave.cells c.args.self.seen) some c.requires.pin c.requires.short skew
    (λ i. skewed (cells i) (late i))
