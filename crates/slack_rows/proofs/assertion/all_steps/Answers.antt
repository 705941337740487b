use Rattle.std.proofs.Common.{sym, subst}
use Rattle.scald_base.specs.Time.{period}
use Rattle.scald_base.specs.declared.assertion.AssertSpec.{AssertSpec}
use Rattle.fixpoint_engine.specs.Pins.{read}
use Rattle.critical_paths.specs.declared.direction.Direction.TheVariants.{Change}
use Rattle.slack_rows.specs.Held.{TellDirections}
use Rattle.slack_rows.specs.Watch.{directions_of}
use Rattle.slack_rows.proofs.Marking.{one_direction}
use Rattle.slack_rows.proofs.assertion.all_steps.Goals as goal

pub returns-in_ok-changes-in-Stable-clause-finding : goal.returns-in_ok-changes-in-Stable-clause-finding
returns-in_ok-changes-in-Stable-clause-finding g c =
    let p = period c.args.view.now.circuit.now.header in
    let fold = read (g.W.CyclicWave.cells c.args.fold.now) in
    let wide = read (g.W.CyclicWave.cells c.args.wide.now) in
    let found = c.in_ok-changes-in-Stable.changes in
    subst (λ (s : AssertSpec). TellDirections p fold wide (directions_of s) found) (sym c.in-Stable.is)
    (one_direction p fold wide Change found c.in_ok-changes-in-Stable.ensures.finding)

pub returns-in_ok-both-in-Precision-clause-finding : goal.returns-in_ok-both-in-Precision-clause-finding
returns-in_ok-both-in-Precision-clause-finding g c =
    let p = period c.args.view.now.circuit.now.header in
    let fold = read (g.W.CyclicWave.cells c.args.fold.now) in
    let wide = read (g.W.CyclicWave.cells c.args.wide.now) in
    subst (λ (s : AssertSpec). TellDirections p fold wide (directions_of s) c.in_ok-both-in-Precision.both) (sym c.in-Precision.is)
    c.in_ok-both-in-Precision.ensures.finding

pub returns-in_ok-edges-in-Clock-clause-finding : goal.returns-in_ok-edges-in-Clock-clause-finding
returns-in_ok-edges-in-Clock-clause-finding g c =
    let p = period c.args.view.now.circuit.now.header in
    let fold = read (g.W.CyclicWave.cells c.args.fold.now) in
    let wide = read (g.W.CyclicWave.cells c.args.wide.now) in
    subst (λ (s : AssertSpec). TellDirections p fold wide (directions_of s) c.in_ok-edges-in-Clock.edges) (sym c.in-Clock.is)
    c.in_ok-edges-in-Clock.ensures.finding
