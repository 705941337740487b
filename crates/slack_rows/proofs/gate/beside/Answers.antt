use Rattle.std.proofs.Common.{◌≡◌, ◌<◌, Some, length, ap, subst, ◌∙◌, arith}
use Rattle.std.proofs.lemmas.Result.{IfOk-weaker}
use Rattle.scald_base.specs.Time.{period}
use Rattle.step_values.specs.declared.value.Value.{Value}
use Rattle.step_values.specs.Steps.{has}
use Rattle.step_values.specs.Cell.{values}
use Rattle.skew_algebra.specs.Wave.{fold}
use Rattle.fixpoint_engine.specs.Waves.{pin_wave, waves_of}
use Rattle.fixpoint_engine.proofs.Fits.{long_pin}
use Rattle.fixpoint_engine.proofs.ReadSlots.{length_folded, read_folded}
use Rattle.critical_paths.specs.declared.direction.Direction.TheVariants.{Change}
use Rattle.critical_paths.specs.Event.{Events, events, moves}
use Rattle.critical_paths.specs.Region.{IsCyclic}
use Rattle.slack_rows.specs.Exact.{AreOfHeld}
use Rattle.slack_rows.specs.Held.{AreSlots}
use Rattle.slack_rows.specs.Sides.{AreAtSlots}
use Rattle.slack_rows.proofs.Checkers.{folds_repeat}
use Rattle.slack_rows.proofs.Watching.{may_are}
use Rattle.slack_rows.proofs.gate.beside.Goals as goal

pub slots-requires : goal.slots-requires
slots-requires g c =
    let circuit = c.args.view.now.circuit.now in
    let ws = waves_of c.args.view.now.waves.now in
    length_folded (pin_wave circuit ws c.args.held.pin) (g.W.CyclicWave.cells c.in_ok-data.data) c.in_ok-data.ensures
    ∙ long_pin circuit ws c.args.held.pin c.requires.sees.fit.each_slot c.requires.pin

pub returns-clause-finding : goal.returns-clause-finding
returns-clause-finding g c =
    let circuit = c.args.view.now.circuit.now in
    let ws = waves_of c.args.view.now.waves.now in
    let p = period circuit.header in
    let w = pin_wave circuit ws c.args.held.pin in
    let cells = g.W.CyclicWave.cells c.in_ok-data.data in
    let least = c.period-period.ensures.shortest in
    let long : length w.cells ≡ p = long_pin circuit ws c.args.held.pin c.requires.sees.fit.each_slot c.requires.pin in
    let some : 0 < length w.cells = omega (arith, least, c.period-period.ensures.is, long) in
    let repeats : IsCyclic p (events Change (fold values w)) =
    (λ t. ap (λ (v : Value). moves Change (has v)) (folds_repeat p w long t)) in
    λ lets cyclic are.
    c.still_slacks.ensures.finding (events Change (fold values w)) lets repeats cyclic
    (subst (λ (ev : Events). AreSlots p ev c.in_ok-changes.changes)
    (may_are Change cells ∙ ap (events Change) (read_folded w cells some c.in_ok-data.ensures)) c.in_ok-changes.ensures.are) are

pub returns-clause-are : goal.returns-clause-are
returns-clause-are g c =
    let circuit = c.args.view.now.circuit.now in
    let ws = waves_of c.args.view.now.waves.now in
    let w = pin_wave circuit ws c.args.held.pin in
    let cells = g.W.CyclicWave.cells c.in_ok-data.data in
    let least = c.period-period.ensures.shortest in
    let long : length w.cells ≡ period circuit.header = long_pin circuit ws c.args.held.pin c.requires.sees.fit.each_slot c.requires.pin in
    let some : 0 < length w.cells = omega (arith, least, c.period-period.ensures.is, long) in
    IfOk-weaker c.still_slacks.result
    (AreAtSlots circuit ws c.args.paths.now (Some c.args.held) Change c.in_ok-changes.changes c.args.opened.now)
    (AreOfHeld circuit ws c.args.paths.now c.args.held (events Change (fold values w)) c.args.opened.now)
    (λ found are. record {
      changes = c.in_ok-changes.changes;
      changes_are = subst (λ (ev : Events). AreSlots (period circuit.header) ev c.in_ok-changes.changes)
          (may_are Change cells ∙ ap (events Change) (read_folded w cells some c.in_ok-data.ensures)) c.in_ok-changes.ensures.are;
      are = are;
    }) c.still_slacks.ensures.are
