use Rattle.std.proofs.Common.{◌≡◌, ◌∙◌, sym, ap, arith}
use Rattle.flat_circuit.specs.Name.{net_at}
use Rattle.flat_circuit.proofs.Numbered.{order_long}
use Rattle.fixpoint_engine.specs.Settled.{marked_in}
use Rattle.fixpoint_engine.proofs.rounds.first_named.Goals as goal

pub returns-then-has : goal.returns-then-has
returns-then-has c =
    let long = order_long c.args.c.now.nets c.args.c.now.order c.known.ensures.by_name in
    record {
      below = omega (arith, long, c.net_count-place-end.ensures, c.loop-place-test.true);
      is = let e : marked_in c.args.set.now (net_at c.args.c.now.order c.loop-place.place) ≡ c.has.result =
          ap (marked_in c.args.set.now) (sym c.net_at.ensures) ∙ sym c.has.ensures in e ∙ c.if-has.true;
      first = c.loop-place.invariant;
    }

pub returns : goal.returns
returns c k below =
    let long = order_long c.args.c.now.nets c.args.c.now.order c.known.ensures.by_name in
    c.loop-place.invariant k (omega (arith, long, c.net_count-place-end.ensures, c.loop-place-test.false))
