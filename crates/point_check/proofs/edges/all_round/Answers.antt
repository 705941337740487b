use Rattle.std.proofs.Common.{Bool, length, rules, arith, ap}
use Rattle.point_check.specs.Point.{all_round}
use Rattle.point_check.proofs.Where.{never_falls, falls_where}
use Rattle.point_check.proofs.edges.all_round.Goals as goal

pub returns-in-None-clause-window : goal.returns-in-None-clause-window
returns-in-None-clause-window g c =
    let cells = g.W.CyclicWave.cells c.args.clock.now in
    ap (λ (falls : Bool). all_round (length cells) c.args.limits falls)
    (never_falls cells c.period-period.result c.period-period.ensures (λ k below. let said = c.in-None.ensures k (omega arith) below in search rules))

pub returns-in-Some-clause-window : goal.returns-in-Some-clause-window
returns-in-Some-clause-window g c =
    let cells = g.W.CyclicWave.cells c.args.clock.now in
    let found = c.in-Some.ensures in
    let p = c.period-period.ensures in
    rw (p, c.setup.ensures) (ap (λ (falls : Bool). all_round (length cells) c.args.limits falls)
    (falls_where cells c.period-period.result p c.in-Some._fall found.within (λ k below. let said = found.before k (omega arith) below in search rules) (let said = found.passes in search rules)))
