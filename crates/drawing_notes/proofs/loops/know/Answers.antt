use Rattle.std.proofs.Common.{◌≡◌, ◌<◌, Bool, cond, List, length, Some, None, sym, ap, subst, ◌∙◌}
use Rattle.std.specs.List.{All}
use Rattle.fixpoint_engine.specs.Settled.{marked_in}
use Rattle.drawing_notes.specs.Search.{is_led_to}
use Rattle.drawing_notes.proofs.Knowing.{knows, queue_below}
use Rattle.drawing_notes.proofs.Parting.{learned, root_known}
use Rattle.drawing_notes.proofs.loops.know.Goals as goal
use Rattle.drawing_notes.proofs.loops.know.Goals.{then-is_led_to, else-is_led_to}

pub settle-requires-clause-fresh : goal.settle-requires-clause-fresh
settle-requires-clause-fresh c =
    subst (All (λ net. net < length c.args.fresh.now)) (sym c.nets.ensures.is)
    (queue_below c.trace.new.self (length c.args.fresh.now) c.nets.ensures.once (c.in_ok-trace.ensures.each_net ∙ sym c.requires.partly.each_net))

pub settle-requires-clause-parts : goal.settle-requires-clause-parts
settle-requires-clause-parts c =
    subst (All (λ net. net < length c.args.parts.now)) (sym c.nets.ensures.is)
    (queue_below c.trace.new.self (length c.args.parts.now) c.nets.ensures.once (c.in_ok-trace.ensures.each_net ∙ sym c.requires.partly.each_part))

pub returns-clause-partly : goal.returns-clause-partly
returns-clause-partly c =
    let circuit = c.args.c.now in
    let root = c.args.root in
    let shared = c.trace.new.self in
    let led = sym (c.is_led_to.ensures ∙ ap (λ (ms : List Bool). is_led_to circuit (marked_in ms) root) c.set-2.ensures) in
    let part_is : c.if-is_led_to.part ≡ cond (is_led_to circuit (marked_in shared.marks) root) (Some root) None =
    elim c.if-is_led_to.branch [
      | then-is_led_to w ↦ w.part-is ∙ sym (ap (λ b. cond b (Some root) None) (led ∙ w.if-is_led_to.true))
      | else-is_led_to w ↦ w.part-is ∙ sym (ap (λ b. cond b (Some root) None) (led ∙ w.if-is_led_to.false))
    ] in
    learned circuit root (marked_in shared.marks) c.if-is_led_to.part c.args.fresh.now c.settle.new.fresh c.args.parts.now c.settle.new.parts c.requires.partly
    (knows circuit root c.args.fresh.now c.settle.new.fresh c.set.result.now c.args.parts.now c.settle.new.parts c.if-is_led_to.part
    c.args.search.now.reached c.add.new.self c.follow.new.self c.args.search.now.shared c.add-2.new.self shared c.nets.result.now
    c.requires.partly c.requires.root (sym c.has.ensures ∙ c.if-not-has.false) c.requires.reached c.in_ok-add.ensures c.in_ok-follow.ensures.is
    c.requires.shared c.in_ok-add-2.ensures c.set.ensures c.in_ok-trace.ensures.is c.nets.ensures.once c.nets.ensures.is part_is
    (record { each_net = c.settle.ensures.each_net; each_part = c.settle.ensures.each_part; settled = c.settle.ensures.settled; given = c.settle.ensures.given }))

pub returns-clause-root : goal.returns-clause-root
returns-clause-root c =
    let circuit = c.args.c.now in
    let root = c.args.root in
    let shared = c.trace.new.self in
    let led = sym (c.is_led_to.ensures ∙ ap (λ (ms : List Bool). is_led_to circuit (marked_in ms) root) c.set-2.ensures) in
    let part_is : c.if-is_led_to.part ≡ cond (is_led_to circuit (marked_in shared.marks) root) (Some root) None =
    elim c.if-is_led_to.branch [
      | then-is_led_to w ↦ w.part-is ∙ sym (ap (λ b. cond b (Some root) None) (led ∙ w.if-is_led_to.true))
      | else-is_led_to w ↦ w.part-is ∙ sym (ap (λ b. cond b (Some root) None) (led ∙ w.if-is_led_to.false))
    ] in
    root_known circuit root (marked_in shared.marks) c.if-is_led_to.part c.args.fresh.now c.settle.new.fresh c.args.parts.now c.settle.new.parts c.requires.partly
    (knows circuit root c.args.fresh.now c.settle.new.fresh c.set.result.now c.args.parts.now c.settle.new.parts c.if-is_led_to.part
    c.args.search.now.reached c.add.new.self c.follow.new.self c.args.search.now.shared c.add-2.new.self shared c.nets.result.now
    c.requires.partly c.requires.root (sym c.has.ensures ∙ c.if-not-has.false) c.requires.reached c.in_ok-add.ensures c.in_ok-follow.ensures.is
    c.requires.shared c.in_ok-add-2.ensures c.set.ensures c.in_ok-trace.ensures.is c.nets.ensures.once c.nets.ensures.is part_is
    (record { each_net = c.settle.ensures.each_net; each_part = c.settle.ensures.each_part; settled = c.settle.ensures.settled; given = c.settle.ensures.given }))
