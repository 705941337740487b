use Rattle.std.proofs.Common.{◌∙◌, ap, sym}
use Rattle.element_kinds.specs.declared.form.Form.TheVariants.{Checker}
use Rattle.element_kinds.specs.Kinds.{closes_of, form_of}
use Rattle.trace_sim.specs.Choice.{chosen}
use Rattle.trace_sim.specs.Simulated.{run_of}
use Rattle.fault_decider.proofs.Breaking.{form_edge, form_high, form_mark}
use Rattle.fault_decider.proofs.tested.is_form_break.Goals as goal

pub returns-in-Checker-SetupHold : goal.returns-in-Checker-SetupHold
returns-in-Checker-SetupHold c choices pick h =
    form_edge (run_of c.args.ticks choices c.args.bits.now) c.args.i.now (chosen pick c.args.wires.now) c.args.from
    c.args.named (form_of c.args.i.now.kind) (closes_of c.args.i.now.kind) c.in-Edge.rise c.in-Edge.change
    (sym c.in-Checker-SetupHold.ensures ∙ ap Checker c.in-Checker-SetupHold.field-0-is) c.in-Edge.is
    (c.is_edge_break.ensures choices pick h)

pub returns-in-Checker-RiseFall : goal.returns-in-Checker-RiseFall
returns-in-Checker-RiseFall c choices pick h =
    form_high (run_of c.args.ticks choices c.args.bits.now) c.args.i.now (chosen pick c.args.wires.now) c.args.from
    c.args.named (form_of c.args.i.now.kind) (closes_of c.args.i.now.kind) c.in-High.rise c.in-High.fall c.in-High.change
    (sym c.in-Checker-RiseFall.ensures ∙ ap Checker c.in-Checker-RiseFall.field-0-is) c.in-High.is
    (c.is_high_break.ensures choices pick h)

pub returns-in-Gate-Some : goal.returns-in-Gate-Some
returns-in-Gate-Some c choices pick h =
    form_mark (run_of c.args.ticks choices c.args.bits.now) c.args.i.now (chosen pick c.args.wires.now) c.args.from
    c.args.named (form_of c.args.i.now.kind) (closes_of c.args.i.now.kind) c.in-Gate-Some.closed c.in-Mark.tick
    c.in-Mark.marked c.in-Mark.pin (sym c.in-Gate-Some.ensures) (sym c.in-Gate-Some.ensures') c.in-Mark.is
    (c.is_mark_break.ensures choices pick h)
