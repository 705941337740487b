use Rattle.std.proofs.Common.{arith}
use Rattle.flat_circuit.specs.Stable.{AreAlikeBefore}
use Rattle.flat_circuit.proofs.Pairs.{next_one, stable_by_pairs}
use Rattle.flat_circuit.proofs.stability.are_alike_in_pairs.Goals as goal

pub loop-net-preserved : goal.loop-net-preserved
loop-net-preserved c =
    next_one (AreAlikeBefore c.args.c.now c.args.cases.now c.args.classes.now) c.loop-net.net c.loop-net.invariant c.if-not-is_as_those_before.ensures

pub returns : goal.returns
returns c =
    stable_by_pairs c.args.c.now c.args.cases.now c.args.classes.now
    (λ i below. c.loop-net.invariant i (omega (arith, below, c.net_count-net-end.ensures, c.loop-net-test.false)))
