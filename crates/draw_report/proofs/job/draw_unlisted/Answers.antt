use Rattle.std.proofs.Common.{arith}
use Rattle.draw_report.proofs.Collecting.{told_only}
use Rattle.draw_report.proofs.Texts.{IfOk-both}
use Rattle.draw_report.proofs.job.draw_unlisted.Goals as goal

pub draw_only-requires-clause-known : goal.draw_only-requires-clause-known
draw_only-requires-clause-known g c = c.in_ok-store.ensures.are

pub draw_only-requires-clause-fit : goal.draw_only-requires-clause-fit
draw_only-requires-clause-fit g c = c.in_ok-store.ensures.settled.fit

pub draw_only-requires-clause-room : goal.draw_only-requires-clause-room
draw_only-requires-clause-room g c =
    let few = c.in_ok-store.ensures.settled.few in
    omega (arith, few)

pub returns : goal.returns
returns g c =
    IfOk-both c.draw_only.result c.draw_only.ensures.drawn c.draw_only.ensures.faults
    (λ told drawn faults. told_only c.args.limits c.args.job.subject.now.circuit
    c.args.job.subject.now.cases c.args.job.limit c.args.base.base.rounds c.in_ok-store.store
    c.in_ok-store.case told c.requires.unlisted c.requires.settled.settled.settled.settles
    c.in_ok-store.ensures drawn faults)
