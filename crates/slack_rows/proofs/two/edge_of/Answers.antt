use Rattle.std.proofs.Common.{sym, subst}
use Rattle.scald_base.specs.Time.{period}
use Rattle.std.specs.Prelude.{pos, ◌+ℤ◌, ◌≤ℤ◌}
use Rattle.std.proofs.Common.{◌*◌}
use Rattle.critical_paths.specs.declared.event.PinEvent.{PinEvent}
use Rattle.critical_paths.specs.Tick.{IsWithin, most_tick}
use Rattle.critical_paths.specs.Views.{IsPin}
use Rattle.slack_rows.proofs.Launching.{step_from, step_pin, step_within}
use Rattle.slack_rows.proofs.two.edge_of.Goals as goal

pub step_path-requires-clause-pin : goal.step_path-requires-clause-pin
step_path-requires-clause-pin g c =
    subst (λ (e : PinEvent). IsPin c.args.view.now.circuit.now e.pin) (sym c.edge.ensures)
    (step_pin c.args.view.now.circuit.now c.args.held c.args.window c.args.corner c.requires.held)

pub step_path-requires-clause-tick : goal.step_path-requires-clause-tick
step_path-requires-clause-tick g c =
    subst (λ (e : PinEvent). IsWithin most_tick e.tick) (sym c.edge.ensures)
    (step_within (period c.args.view.now.circuit.now.header) c.args.held c.args.window c.args.corner c.requires.window)

pub step_path-requires-clause-from : goal.step_path-requires-clause-from
step_path-requires-clause-from g c =
    subst (λ (e : PinEvent). pos 0 ≤ℤ (pos (3 * period c.args.view.now.circuit.now.header) +ℤ e.tick)) (sym c.edge.ensures)
    (step_from (period c.args.view.now.circuit.now.header) c.args.held c.args.window c.args.corner c.requires.window)
