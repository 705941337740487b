use Rattle.std.proofs.Common.{not, ap, subst}
use Rattle.scald_base.specs.Time.{period}
use Rattle.step_values.specs.declared.value.Value.{Value}
use Rattle.step_values.specs.Steps.{has}
use Rattle.fixpoint_engine.specs.Pins.{read}
use Rattle.critical_paths.specs.Event.{Events, events, moves}
use Rattle.critical_paths.specs.Region.{IsCyclic}
use Rattle.slack_rows.specs.Held.{AreSlots, lacking}
use Rattle.slack_rows.proofs.Cyclic.{read_again}
use Rattle.slack_rows.proofs.Watching.{lacks_are, may_are}
use Rattle.slack_rows.proofs.assertion.steps.Goals as goal

pub returns-clause-finding : goal.returns-clause-finding
returns-clause-finding g c =
    let p = period c.args.view.now.circuit.now.header in
    let d = c.args.direction in
    let fold = g.W.CyclicWave.cells c.args.fold.now in
    let wide = g.W.CyclicWave.cells c.args.wide.now in
    let cyclic : IsCyclic p (events d (read fold)) =
    (λ t. ap (λ (v : Value). moves d (has v)) (read_again fold p c.requires.fold t)) in
    let still : IsCyclic p (lacking d (read wide)) =
    (λ t. ap (λ (v : Value). not (moves d (has v))) (read_again wide p c.requires.wide t)) in
    c.still_slacks.ensures.finding (events d (read fold)) (lacking d (read wide)) cyclic still
    (subst (λ (ev : Events). AreSlots p ev c.in_ok-changes.changes) (may_are d fold) c.in_ok-changes.ensures.are)
    (subst (λ (ev : Events). AreSlots p ev c.in_ok-still.still) (lacks_are d wide) c.in_ok-still.ensures.are)
