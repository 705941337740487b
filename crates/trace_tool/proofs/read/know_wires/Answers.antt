use Rattle.std.proofs.Common.{arith}
use Rattle.trace_tool.proofs.Readback.{all_small}
use Rattle.trace_tool.proofs.read.know_wires.Goals as goal

pub returns : goal.returns
returns c = λ wires fit.
    all_small c.args.c.now.nets c.args.pins.now wires
    (λ k p wire below has fits. c.loop-pin.invariant k p wire (omega (arith, below, c.loop-pin-test.false)) has fits) fit
