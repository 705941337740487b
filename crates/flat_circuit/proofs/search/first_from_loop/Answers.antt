use Rattle.std.proofs.Common.{arith}
use Rattle.flat_circuit.proofs.Walk.{answers}
use Rattle.flat_circuit.proofs.search.first_from_loop.Goals as goal

pub returns : goal.returns
returns c = answers c.args.nodes.now c.loop-root.marks.items c.first_looped.result c.loop-root.invariant.marks
    c.loop-root.invariant.none (λ i h. c.loop-root.invariant.seen i (omega arith)) (rw c.deref.ensures.value at c.first_looped.ensures)
