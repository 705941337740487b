use Rattle.std.proofs.Common.{◌≡◌, Some, None, arith, rules, subst, sym}
use Rattle.std.specs.Prelude.{slice_get}
use Rattle.std.proofs.lemmas.Grind.{common_steps}
use Rattle.std.proofs.lemmas.Result.{IfOk-weaker}
use Rattle.trace_sim.specs.Choice.{choices_of}
use Rattle.trace_sim.specs.Simulated.{run_of}
use Rattle.trace_tool.specs.declared.element.Element.{Element}
use Rattle.trace_tool.specs.declared.element.Element.TheVariants.{Instance as OfInstance, Net as OfNet}
use Rattle.trace_tool.specs.Pass.{FindsFirst, HasSoonest, NetEnds}
use Rattle.trace_tool.proofs.Soonest.{has_soonest, no_net, placed_net}
use Rattle.trace_tool.proofs.first.element_end.Goals as goal

pub returns-in-Instance : goal.returns-in-Instance
returns-in-Instance c =
    let choices = choices_of c.args.choice.now in
    let run = run_of c.args.ticks choices c.args.bits.now in
    subst (λ (e : Element). HasSoonest c.args.c.now run c.args.from e c.instance_end.result) (sym c.in-Instance.is)
    (has_soonest c.args.c.now c.args.ticks choices c.args.bits.now c.args.from (OfInstance c.in-Instance.k) c.instance_end.result c.instance_end.ensures)

pub returns-in-None : goal.returns-in-None
returns-in-None c =
    let choices = choices_of c.args.choice.now in
    let run = run_of c.args.ticks choices c.args.bits.now in
    let none : slice_get c.args.c.now.order c.in-Net.place ≡ None = first_of (cc, search rules, grind (arith, common_steps)) in
    subst (λ (e : Element). HasSoonest c.args.c.now run c.args.from e None) (sym c.in-Net.is)
    (has_soonest c.args.c.now c.args.ticks choices c.args.bits.now c.args.from (OfNet c.in-Net.place) None
    (no_net c.args.c.now choices c.args.bits.now c.args.from c.args.ticks c.in-Net.place none))

pub returns-in-Some : goal.returns-in-Some
returns-in-Some c =
    let circuit = c.args.c.now in
    let choices = choices_of c.args.choice.now in
    let bits = c.args.bits.now in
    let run = run_of c.args.ticks choices bits in
    let some : slice_get circuit.order c.in-Net.place ≡ Some c.in-Some.number = first_of (cc, search rules, grind (arith, common_steps)) in
    IfOk-weaker c.net_end.result (λ found. FindsFirst (NetEnds circuit bits c.in-Some.number c.args.from) c.args.ticks found)
    (λ found. HasSoonest circuit run c.args.from c.args.e found)
    (λ found first. subst (λ (e : Element). HasSoonest circuit run c.args.from e found) (sym c.in-Net.is)
    (has_soonest circuit c.args.ticks choices bits c.args.from (OfNet c.in-Net.place) found
    (placed_net circuit choices bits c.args.from c.args.ticks c.in-Net.place c.in-Some.number found some first))) c.net_end.ensures
