use Rattle.std.proofs.Common.{set, arith}
use Rattle.std.proofs.lemmas.List.{nil_from_length}
use Rattle.flat_circuit.specs.declared.order_search.Mark.TheVariants.{Open}
use Rattle.flat_circuit.specs.Sorted.{newest_first}
use Rattle.flat_circuit.proofs.OrderWalk.{pushed, push_smaller, nexted, popped, pop_smaller, ended}
use Rattle.flat_circuit.proofs.order_search.search.Goals as goal

pub walk-preserved-then-is_fresh : goal.walk-preserved-then-is_fresh
walk-preserved-then-is_fresh c =
    pushed c.args.nodes.now (set c.args.marks.now c.args.root Open) c.walk.marks c.walk.order.items c.walk.path.items c.push.new.self.items
    c.walk.node c.walk.at c.in-Some.pin c.requires.nodes c.in-Some.ensures c.if-is_fresh.ensures c.in_ok-push-in-Some.ensures.items c.walk.invariant

pub walk-smaller-then-is_fresh : goal.walk-smaller-then-is_fresh
walk-smaller-then-is_fresh c =
    push_smaller c.args.nodes.now (set c.args.marks.now c.args.root Open) c.walk.marks c.walk.order.items c.walk.path.items c.push.new.self.items
    c.walk.node c.walk.at c.in-Some.pin c.in-Some.ensures c.if-is_fresh.ensures c.in_ok-push-in-Some.ensures.items c.walk.invariant

pub walk-preserved-else-is_fresh : goal.walk-preserved-else-is_fresh
walk-preserved-else-is_fresh c = nexted c.args.nodes.now (set c.args.marks.now c.args.root Open) c.walk.marks c.walk.order.items
    (newest_first c.walk.path.items) c.walk.node c.walk.at c.in-Some.pin c.requires.loopless c.in-Some.ensures c.if-is_fresh.ensures c.walk.invariant

pub walk-preserved : goal.walk-preserved
walk-preserved c = popped c.args.nodes.now (set c.args.marks.now c.args.root Open) c.walk.marks c.walk.order.items c.push-in-None.new.self.items
    c.walk.path.items c.pop.new.self.items c.in-Some-pop.frame c.walk.node c.walk.at
    c.requires.loopless c.in_ok-push-in-None.ensures.items c.in-Some-pop.ensures.items c.in-None.ensures c.walk.invariant

pub walk-smaller : goal.walk-smaller
walk-smaller c = pop_smaller c.args.nodes.now c.walk.marks c.walk.path.items c.pop.new.self.items c.in-Some-pop.frame c.walk.node c.walk.at c.in-Some-pop.ensures.items

pub returns-in-None-pop-clause-marks : goal.returns-in-None-pop-clause-marks
returns-in-None-pop-clause-marks c =
    let e = nil_from_length c.walk.path.items (omega (arith, c.in-None-pop.ensures.cases.0, c.walk.path.ok.0)) in
    (ended c.args.nodes.now (set c.args.marks.now c.args.root Open) c.walk.marks c.walk.order.items c.push-in-None.new.self.items
    c.walk.path.items c.walk.node c.walk.at c.in_ok-push-in-None.ensures.items e c.in-None.ensures c.walk.invariant).marks_are
