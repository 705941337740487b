use Rattle.std.proofs.Common.{length, subst, sym, refl}
use Rattle.flat_circuit.specs.Steps.{StopsAtLoop}
use Rattle.flat_circuit.proofs.Loops.{nodes_in, none_looped, first_looped, looped_in}
use Rattle.flat_circuit.proofs.passages.no_loop.Goals as goal

pub first_from_loop-requires : goal.first_from_loop-requires
first_from_loop-requires c =
    rw c.deref.ensures.value (nodes_in c.args.nets.now.wires c.args.drivers.now
    c.args.instances.now (length c.args.drivers.now) c.in_ok-nodes.nodes.items c.requires c.in_ok-nodes.ensures)

pub returns-in-None : goal.returns-in-None
returns-in-None c = none_looped c.args.nets.now.wires c.args.drivers.now c.args.instances.now (length c.args.drivers.now)
    c.in_ok-nodes.nodes.items c.requires c.in_ok-nodes.ensures (rw (c.in-None.is, c.deref.ensures.value) at c.in_ok-first_from_loop.ensures)

pub place_at-requires : goal.place_at-requires
place_at-requires c = looped_in c.args.nets.now.wires c.args.drivers.now c.args.instances.now (length c.args.drivers.now) c.in-Some.k
    c.in_ok-nodes.nodes.items c.requires c.in_ok-nodes.ensures (rw (c.in-Some.is, c.deref.ensures.value) at c.in_ok-first_from_loop.ensures)

pub returns : goal.returns
returns c = subst (StopsAtLoop c.args.nets.now.wires c.args.instances.now) (sym c.refused.ensures) (
  refl,
  first_looped c.args.nets.now.wires c.args.drivers.now c.args.instances.now (length c.args.drivers.now)
      c.in-Some.k c.in_ok-nodes.nodes.items c.place_at.result c.place_at.ensures
      c.requires c.in_ok-nodes.ensures (rw (c.in-Some.is, c.deref.ensures.value) at c.in_ok-first_from_loop.ensures),
)
