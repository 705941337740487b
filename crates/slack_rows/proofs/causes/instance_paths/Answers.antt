use Rattle.std.proofs.Common.{sym}
use Rattle.slack_rows.proofs.Pathing.{pins_exist}
use Rattle.slack_rows.proofs.causes.instance_paths.Goals as goal

pub pulse_paths-requires-clause-pins : goal.pulse_paths-requires-clause-pins
pulse_paths-requires-clause-pins g c =
    pins_exist c.args.view.now.circuit.now c.args.number c.in-Some.instance.now c.requires.sees.circuit (sym c.in-Some.ensures)

pub held_paths-requires-clause-pins : goal.held_paths-requires-clause-pins
held_paths-requires-clause-pins g c =
    pins_exist c.args.view.now.circuit.now c.args.number c.in-Some.instance.now c.requires.sees.circuit (sym c.in-Some.ensures)
