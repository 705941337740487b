use Rattle.std.proofs.Common.{◌≡◌, [], subst, sym, arith}
use Rattle.fixpoint_engine.specs.Waves.{FitWaves}
use Rattle.draw_report.proofs.job.draw_only.Goals as goal

pub add_settled-requires-clause-room : goal.add_settled-requires-clause-room
add_settled-requires-clause-room g c =
    let none : c.args.collected.now.faults ≡ 0 = c.requires.none.faults_are in
    let few = c.requires.room in
    omega (arith, none, few)

pub add_settled-requires-clause-ready : goal.add_settled-requires-clause-ready
add_settled-requires-clause-ready g c = ([], c.requires.none.rows_are)

pub draw_in-requires-clause-fit : goal.draw_in-requires-clause-fit
draw_in-requires-clause-fit g c =
    subst (FitWaves c.args.job.subject.now.circuit) (sym c.waves_in-waves.ensures) c.requires.fit

pub returns-clause-drawn : goal.returns-clause-drawn
returns-clause-drawn g c = c.in_ok-drawn.ensures

pub returns-clause-faults : goal.returns-clause-faults
returns-clause-faults g c =
    let none : c.args.collected.now.faults ≡ 0 = c.requires.none.faults_are in
    let count = c.in_ok-add_settled.ensures.count in
    omega (arith, none, count)
