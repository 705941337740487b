use Rattle.std.proofs.Common.{rules, arith, refl}
use Rattle.point_check.proofs.Where.{no_next, is_next}
use Rattle.point_check.proofs.edges.next_edge.Goals as goal

pub returns-in-None : goal.returns-in-None
returns-in-None g c =
    let p = c.period-period.ensures in
    no_next (g.W.CyclicWave.cells c.args.clock.now) c.period-period.result c.args.from _ p (omega (arith, p)) refl
    (λ k below. let said = c.in-None.ensures k (omega arith) below in search rules)

pub returns-in-Some : goal.returns-in-Some
returns-in-Some g c =
    let p = c.period-period.ensures in
    let found = c.in-Some.ensures in
    is_next (g.W.CyclicWave.cells c.args.clock.now) c.period-period.result c.args.from _ p (omega (arith, p)) refl c.in-Some.place found.within
    (λ k below. let said = found.before k (omega arith) below in search rules) (let said = found.passes in search rules)
