use Rattle.std.proofs.Common.{sym}
use Rattle.element_kinds.specs.Kinds.{checks_pulses}
use Rattle.trace_sim.specs.Choice.{chosen}
use Rattle.trace_sim.specs.Simulated.{run_of}
use Rattle.fault_decider.proofs.Breaking.{form_pulse}
use Rattle.fault_decider.proofs.tested.is_pulse_break.Goals as goal

pub returns-then-checks_pulses : goal.returns-then-checks_pulses
returns-then-checks_pulses c choices pick h =
    form_pulse (run_of c.args.ticks choices c.args.bits.now) c.args.i.now (chosen pick c.args.wires.now) c.args.from
    c.args.named (checks_pulses c.args.i.now.kind) c.args.high c.in-Pulse.start c.in-Pulse.end
    (sym c.if-checks_pulses.ensures) c.in-Pulse.is (c.is_width_break.ensures choices pick h)
