use Rattle.std.proofs.Common.{◌≡◌, ℕ, ◌+◌, false, true, length, sym, ap, ◌∙◌, arith, rules}
use Rattle.step_values.specs.Cell.{values}
use Rattle.step_values.specs.Steps.{has}
use Rattle.wave_core.specs.Slots.{cell_round}
use Rattle.fixpoint_engine.specs.Pins.{read}
use Rattle.slack_rows.proofs.Stepping.{fall_found, fall_nowhere}
use Rattle.slack_rows.proofs.window.may_fall.Goals as goal

pub returns-in-None : goal.returns-in-None
returns-in-None g c =
    let cells = g.W.CyclicWave.cells c.args.clock.now in
    fall_nowhere (length cells) (read cells)
    (λ k below.
    let said = c.in-None.ensures k (omega arith) (omega (arith, below, c.period.ensures)) in
    let none : false ≡ has (cell_round values cells (0 + k)) true false = search rules in
    let plain : 0 + k ≡ k = omega arith in
    sym (none ∙ ap (λ (z : ℕ). has (cell_round values cells z) true false) plain))

pub returns-in-Some : goal.returns-in-Some
returns-in-Some g c =
    let cells = g.W.CyclicWave.cells c.args.clock.now in
    let found = c.in-Some.ensures in
    let within = found.within in
    let place = c.in-Some.field-0 in
    let plain : 0 + place ≡ place = omega arith in
    let said = found.passes in
    let some : true ≡ has (cell_round values cells (0 + place)) true false = search rules in
    fall_found (length cells) (read cells) place (omega (arith, within, c.period.ensures))
    (sym (some ∙ ap (λ (z : ℕ). has (cell_round values cells z) true false) plain))
