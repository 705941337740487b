use Rattle.std.proofs.Common.{arith}
use Rattle.flat_circuit.specs.Alike.{PinsAlike}
use Rattle.flat_circuit.proofs.Lists.{zip_next}
use Rattle.flat_circuit.proofs.likeness.are_all_pins_alike.Goals as goal

pub loop-place-preserved : goal.loop-place-preserved
loop-place-preserved c =
    zip_next (PinsAlike c.args.classes.now) c.args.a.now c.args.b.now c.loop-place.place _ _ (omega arith) (omega arith) c.if-not-are_pins_alike.ensures
    c.loop-place.invariant
