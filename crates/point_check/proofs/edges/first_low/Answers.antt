use Rattle.std.proofs.Common.{rules, arith, refl}
use Rattle.point_check.proofs.Where.{never_low, low_where}
use Rattle.point_check.proofs.edges.first_low.Goals as goal

pub returns-in-None-clause-first : goal.returns-in-None-clause-first
returns-in-None-clause-first g c =
    never_low (g.W.CyclicWave.cells c.args.clock.now) c.period-period.result c.args.edge _ c.period-period.ensures refl
    (λ k below. let said = c.in-None.ensures k (omega arith) below in search rules)

pub returns-in-Some-clause-first : goal.returns-in-Some-clause-first
returns-in-Some-clause-first g c =
    let found = c.in-Some.ensures in
    low_where (g.W.CyclicWave.cells c.args.clock.now) c.period-period.result c.args.edge _ c.period-period.ensures refl c.in-Some.place found.within
    (λ k below. let said = found.before k (omega arith) below in search rules) (let said = found.passes in search rules)
