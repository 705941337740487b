use Rattle.std.proofs.Common.{◌∙◌, List, ap, subst, sym}
use Rattle.flat_circuit.specs.declared.instance.Pin.{Pin}
use Rattle.flat_circuit.specs.Run.{WiresFit}
use Rattle.trace_sim.specs.Choice.{PickFits}
use Rattle.trace_tool.specs.Trace.{instance_line}
use Rattle.trace_tool.proofs.Readback.{guess_is, guess_whole}
use Rattle.trace_tool.proofs.read.read_delays.Goals as goal

pub returns-then-not-pick_fits : goal.returns-then-not-pick_fits
returns-then-not-pick_fits c = λ pick wires fits is.
    let circuit = c.args.c.now in
    let i = c.args.i.now in
    let small = c.know_wires.ensures wires (subst (λ (pins : List Pin). WiresFit circuit.nets pins wires) (sym c.as_slice.ensures) fits.wire) in
    let read =
    guess_is circuit i c.args.line.now pick c.in_ok-pick.pick wires c.in_ok-pick.wires c.in_ok-pick.ensures fits is
    (c.know_delays.ensures circuit pick wires fits) small in
    c.if-not-pick_fits.ensures (subst (PickFits circuit i c.in_ok-pick.pick) (sym c.as_slice-2.ensures) read.fits)

pub returns-then-not-branch : goal.returns-then-not-branch
returns-then-not-branch c = λ pick wires fits is.
    let circuit = c.args.c.now in
    let i = c.args.i.now in
    let small = c.know_wires.ensures wires (subst (λ (pins : List Pin). WiresFit circuit.nets pins wires) (sym c.as_slice.ensures) fits.wire) in
    let read =
    guess_is circuit i c.args.line.now pick c.in_ok-pick.pick wires c.in_ok-pick.wires c.in_ok-pick.ensures fits is
    (c.know_delays.ensures circuit pick wires fits) small in
    (rw c.if-not-branch.true at c.in_ok-is_instance_line.ensures) (read.text ∙ ap (instance_line i c.in_ok-pick.pick) (sym c.as_slice-3.ensures))

pub returns : goal.returns
returns c =
    let circuit = c.args.c.now in
    let i = c.args.i.now in
    let pick = c.in_ok-pick.pick in
    let wires = c.in_ok-pick.wires in
    let fits : PickFits circuit i pick wires = subst (PickFits circuit i pick) c.as_slice-2.ensures c.if-not-pick_fits.ensures in (
      record {
        fits = fits;
        plain = record {
          delays_small = c.know_delays.ensures circuit pick wires fits;
          wires_small = c.know_wires.ensures wires (subst (λ (pins : List Pin). WiresFit circuit.nets pins wires) (sym c.as_slice.ensures) fits.wire);
          whole = guess_whole i c.args.line.now pick wires c.in_ok-pick.ensures;
        };
      },
      (rw c.if-not-branch.false at c.in_ok-is_instance_line.ensures) ∙ ap (instance_line i pick) c.as_slice-3.ensures,
    )
