use Rattle.std.proofs.Common.{arith}
use Rattle.scald_base.specs.Time.{period}
use Rattle.critical_paths.specs.Views.{passing}
use Rattle.slack_rows.proofs.Watching.{slots_at, slots_close}
use Rattle.slack_rows.proofs.watch.slots.Goals as goal

pub returns-clause-are : goal.returns-clause-are
returns-clause-are g c =
    slots_at _ (period c.args.view.now.circuit.now.header) (passing c.args.test (g.W.CyclicWave.cells c.args.wave.now)) c.in_ok-found.found c.requires
    c.in_ok-found.ensures.all c.in_ok-found.ensures.regions

pub returns-clause-close : goal.returns-clause-close
returns-clause-close g c =
    let is = c.period-period.ensures.is in
    let longest = c.period-period.ensures.longest in
    let p = period c.args.view.now.circuit.now.header in
    let ev = passing c.args.test (g.W.CyclicWave.cells c.args.wave.now) in
    let are = slots_at _ p ev c.in_ok-found.found c.requires c.in_ok-found.ensures.all c.in_ok-found.ensures.regions in
    slots_close p ev c.in_ok-found.found (omega (arith, is, longest)) are.regions
