use Rattle.std.proofs.Common.{◌≡◌, ◌∙◌, set, sym, subst, ap, arith}
use Rattle.std.proofs.lemmas.List.{nil_from_length, length-set}
use Rattle.flat_circuit.specs.declared.search.Mark.TheVariants.{Open, Looped}
use Rattle.flat_circuit.specs.Search.{Found, closed}
use Rattle.flat_circuit.proofs.Walk.{pushed, push_smaller, popped, pop_smaller, ended, step_loop, frames_in, root_marked, stays_before}
use Rattle.flat_circuit.proofs.search.search.Goals as goal

pub walk-preserved-then-is_fresh : goal.walk-preserved-then-is_fresh
walk-preserved-then-is_fresh c = pushed c.args.nodes.now (set c.args.marks.now c.args.root Open) c.walk.marks c.walk.path.items c.push.new.self.items
    c.walk.node c.walk.at c.in-Some.pin c.requires.nodes c.in-Some.ensures c.if-is_fresh.ensures c.in_ok-push-in-Some.ensures.items c.walk.invariant

pub walk-smaller-then-is_fresh : goal.walk-smaller-then-is_fresh
walk-smaller-then-is_fresh c =
    push_smaller c.args.nodes.now (set c.args.marks.now c.args.root Open) c.walk.marks c.walk.path.items c.push.new.self.items
    c.walk.node c.walk.at c.in-Some.pin c.in-Some.ensures c.if-is_fresh.ensures c.in_ok-push-in-Some.ensures.items c.walk.invariant

pub walk-preserved : goal.walk-preserved
walk-preserved c = popped c.args.nodes.now (set c.args.marks.now c.args.root Open) c.walk.marks c.walk.path.items
    c.pop.new.self.items c.in-Some-pop.frame c.walk.node c.walk.at c.in-Some-pop.ensures.items c.in-None.ensures c.walk.invariant

pub walk-smaller : goal.walk-smaller
walk-smaller c = pop_smaller c.args.nodes.now c.walk.marks c.walk.path.items c.pop.new.self.items c.in-Some-pop.frame c.walk.node c.walk.at c.in-Some-pop.ensures.items

pub close-requires : goal.close-requires
close-requires c =
    let f = frames_in c.args.nodes.now (set c.args.marks.now c.args.root Open) c.walk.marks c.walk.path.items c.walk.node c.walk.at c.walk.invariant in
    rw (c.deref.ensures.value, length-set c.walk.marks c.walk.node Looped) f

pub returns-else-is_clear-clause-marks : goal.returns-else-is_clear-clause-marks
returns-else-is_clear-clause-marks c =
    let f = step_loop c.args.nodes.now (set c.args.marks.now c.args.root Open) c.walk.marks c.walk.path.items c.walk.node
    c.walk.at c.in-Some.pin c.in-Some.ensures.below c.in-Some.ensures.is c.if-is_fresh.ensures c.if-is_clear.ensures c.walk.invariant in
    let e : c.close.new.marks ≡ closed (set c.walk.marks c.walk.node Looped) c.walk.path.items = c.close.ensures ∙ ap (closed (set c.walk.marks c.walk.node Looped)) c.deref.ensures.value in
    let g = subst (Found c.args.nodes.now (set c.args.marks.now c.args.root Open)) (sym e) f in
    g.marks_are

pub returns-else-is_clear-clause-closed : goal.returns-else-is_clear-clause-closed
returns-else-is_clear-clause-closed c =
    let f = step_loop c.args.nodes.now (set c.args.marks.now c.args.root Open) c.walk.marks c.walk.path.items c.walk.node
    c.walk.at c.in-Some.pin c.in-Some.ensures.below c.in-Some.ensures.is c.if-is_fresh.ensures c.if-is_clear.ensures c.walk.invariant in
    let e : c.close.new.marks ≡ closed (set c.walk.marks c.walk.node Looped) c.walk.path.items = c.close.ensures ∙ ap (closed (set c.walk.marks c.walk.node Looped)) c.deref.ensures.value in
    let g = subst (Found c.args.nodes.now (set c.args.marks.now c.args.root Open)) (sym e) f in
    g.none

pub returns-else-is_clear-clause-stays : goal.returns-else-is_clear-clause-stays
returns-else-is_clear-clause-stays c =
    let f = step_loop c.args.nodes.now (set c.args.marks.now c.args.root Open) c.walk.marks c.walk.path.items c.walk.node
    c.walk.at c.in-Some.pin c.in-Some.ensures.below c.in-Some.ensures.is c.if-is_fresh.ensures c.if-is_clear.ensures c.walk.invariant in
    let e : c.close.new.marks ≡ closed (set c.walk.marks c.walk.node Looped) c.walk.path.items = c.close.ensures ∙ ap (closed (set c.walk.marks c.walk.node Looped)) c.deref.ensures.value in
    let g = subst (Found c.args.nodes.now (set c.args.marks.now c.args.root Open)) (sym e) f in
    stays_before c.args.marks.now c.close.new.marks c.args.root (omega (arith, c.requires.root, c.requires.marks.length_marks)) g.stays

pub returns-else-is_clear-clause-root : goal.returns-else-is_clear-clause-root
returns-else-is_clear-clause-root c =
    let f = step_loop c.args.nodes.now (set c.args.marks.now c.args.root Open) c.walk.marks c.walk.path.items c.walk.node
    c.walk.at c.in-Some.pin c.in-Some.ensures.below c.in-Some.ensures.is c.if-is_fresh.ensures c.if-is_clear.ensures c.walk.invariant in
    let e : c.close.new.marks ≡ closed (set c.walk.marks c.walk.node Looped) c.walk.path.items = c.close.ensures ∙ ap (closed (set c.walk.marks c.walk.node Looped)) c.deref.ensures.value in
    let g = subst (Found c.args.nodes.now (set c.args.marks.now c.args.root Open)) (sym e) f in
    root_marked c.args.marks.now c.close.new.marks c.args.root (omega (arith, c.requires.root, c.requires.marks.length_marks)) g.stays

pub returns-in-None-pop-clause-marks : goal.returns-in-None-pop-clause-marks
returns-in-None-pop-clause-marks c =
    let e = nil_from_length c.walk.path.items (omega (arith, c.in-None-pop.ensures.cases.0, c.walk.path.ok.0)) in
    (ended c.args.nodes.now (set c.args.marks.now c.args.root Open) c.walk.marks c.walk.path.items c.walk.node c.walk.at e c.in-None.ensures c.walk.invariant).marks_are
