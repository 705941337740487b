use Rattle.std.proofs.Common.{arith}
use Rattle.std.proofs.lemmas.Option.{slice_get_within}
use Rattle.trace_sim.specs.Choice.{PickFitsAt}
use Rattle.trace_sim.proofs.PinByPin.{next_one}
use Rattle.trace_sim.proofs.fitting.picks_fit.Goals as goal

pub loop-k-preserved : goal.loop-k-preserved
loop-k-preserved c =
    next_one (PickFitsAt c.args.c.now c.args.choice.now) c.loop-k.k c.loop-k.invariant
    c.if-not-fits_at.ensures

pub returns : goal.returns
returns c k i pick wires here =
    let inside = slice_get_within c.args.c.now.instances k i here in
    c.loop-k.invariant k
    (omega (arith, inside, c.instance_count-k-end.ensures, c.loop-k-test.false)) i pick wires here
