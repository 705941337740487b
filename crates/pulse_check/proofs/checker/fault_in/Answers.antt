use Rattle.std.proofs.Common.{◌≡◌, List, None, Some, length, subst}
use Rattle.step_values.specs.declared.value.Value.{Value}
use Rattle.fixpoint_engine.specs.Pins.{read}
use Rattle.pulse_check.specs.Pulse.{first_narrow}
use Rattle.pulse_check.proofs.Gathered.{no_width, a_width}
use Rattle.pulse_check.proofs.checker.fault_in.Goals as goal

pub returns-in-None : goal.returns-in-None
returns-in-None g c =
    no_width (length c.args.wave.now.cells) c.args.instance c.args.wave.now c.args.high c.args.width
    (subst (λ (cells : List Value). None ≡ first_narrow (length cells) c.args.high (read cells) c.args.width) c.wave.ensures c.in-None.ensures)

pub returns-in-Some : goal.returns-in-Some
returns-in-Some g c =
    a_width (length c.args.wave.now.cells) c.args.instance c.in-Some.from c.in-Some.width c.args.wave.now c.args.high
    c.args.width
    (subst (λ (cells : List Value). Some (c.in-Some.from, c.in-Some.width) ≡ first_narrow (length cells) c.args.high (read cells) c.args.width)
    c.wave.ensures c.in-Some.ensures)
