use Rattle.std.proofs.Common.{◌≡◌, ◌+◌, ℕ, arith, length, subst, sym}
use Rattle.flat_circuit.proofs.Numbered.{order_long}
use Rattle.trace_sim.specs.Choice.{choices_of}
use Rattle.trace_sim.specs.Simulated.{run_of}
use Rattle.trace_tool.specs.declared.element.Element.TheVariants.{Instance as OfInstance, Net as OfNet}
use Rattle.trace_tool.specs.Pass.{AreAmong, HasFirstAmong}
use Rattle.trace_tool.proofs.Earliest.{first_of_all, one_instance, one_more, one_net}
use Rattle.trace_tool.proofs.Soonest.{breaks_by}
use Rattle.trace_tool.proofs.first.first_break.Goals as goal

pub loop-k-preserved : goal.loop-k-preserved
loop-k-preserved c =
    let circuit = c.args.c.now in
    let choices = choices_of c.args.choice.now in
    let bits = c.args.bits.now in
    let from = c.args.from in
    let k = c.loop-k.k in
    subst (HasFirstAmong circuit (run_of c.args.ticks choices bits) from (AreAmong (k + 1) 0)) (sym c.sooner-best.ensures)
    (one_more circuit (run_of c.args.ticks choices bits) from (breaks_by circuit c.args.ticks choices bits from) (AreAmong k 0) (AreAmong (k + 1) 0)
    (OfInstance k) (one_instance k) c.loop-k.best c.in_ok-end.end c.loop-k.invariant c.in_ok-end.ensures)

pub loop-place-preserved : goal.loop-place-preserved
loop-place-preserved c =
    let circuit = c.args.c.now in
    let choices = choices_of c.args.choice.now in
    let bits = c.args.bits.now in
    let from = c.args.from in
    let count = length circuit.instances in
    let place = c.loop-place.place in
    subst (HasFirstAmong circuit (run_of c.args.ticks choices bits) from (AreAmong count (place + 1))) (sym c.sooner-best-in-loop-place.ensures)
    (one_more circuit (run_of c.args.ticks choices bits) from (breaks_by circuit c.args.ticks choices bits from) (AreAmong count place)
    (AreAmong count (place + 1)) (OfNet place) (one_net count place) c.loop-place.best c.in_ok-end-2.end c.loop-place.invariant
    c.in_ok-end-2.ensures)

pub returns : goal.returns
returns c =
    let circuit = c.args.c.now in
    let run = run_of c.args.ticks (choices_of c.args.choice.now) c.args.bits.now in
    let all : c.loop-place.place ≡ length circuit.nets = omega arith in
    first_of_all circuit run c.args.from (order_long circuit.nets circuit.order c.known.ensures.by_name) c.loop-place.best
    (subst (λ (n : ℕ). HasFirstAmong circuit run c.args.from (AreAmong (length circuit.instances) n) c.loop-place.best) all c.loop-place.invariant)
