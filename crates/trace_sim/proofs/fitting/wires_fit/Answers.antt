use Rattle.std.proofs.Common.{arith}
use Rattle.trace_sim.proofs.PinByPin.{WireFitsAt, fit_from, fit_long, fits_there, next_one}
use Rattle.trace_sim.proofs.fitting.wires_fit.Goals as goal

pub returns-then-pins-wires : goal.returns-then-pins-wires
returns-then-pins-wires c fit =
    c.if-pins-wires.true (fit_long c.args.c.now.nets c.args.pins.now c.args.wires.now fit)

pub returns-then-not-wire_fits : goal.returns-then-not-wire_fits
returns-then-not-wire_fits c fit =
    c.if-not-wire_fits.ensures
    (fits_there c.args.c.now.nets c.args.pins.now c.args.wires.now c.loop-place.place c.loop-place-test.true fit)

pub loop-place-preserved : goal.loop-place-preserved
loop-place-preserved c =
    next_one (WireFitsAt c.args.c.now.nets c.args.pins.now c.args.wires.now) c.loop-place.place
    c.loop-place.invariant c.if-not-wire_fits.ensures

pub returns : goal.returns
returns c =
    fit_from c.args.c.now.nets c.args.pins.now c.args.wires.now c.if-pins-wires.false
    (λ place below. c.loop-place.invariant place (omega (arith, below, c.loop-place-test.false)))
