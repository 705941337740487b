use Rattle.std.proofs.Common.{◌∙◌, ◌+◌, ◌-◌, ◌<◌, ◌||◌, Bool, List, length, ap, sym, arith, false}
use Rattle.std.proofs.lemmas.List.{length-replicate}
use Rattle.std.proofs.lemmas.Option.{slice_get_within}
use Rattle.fixpoint_engine.specs.Settled.{marked_in}
use Rattle.fixpoint_engine.proofs.Waiting.{unmarked, waiting_few}
use Rattle.narrowing.specs.Cone.{is_first}
use Rattle.narrowing.proofs.Behind.{closing_end, closing_more, closing_start}
use Rattle.narrowing.proofs.cone.found_behind.Goals as goal

pub add_firsts-requires : goal.add_firsts-requires
add_firsts-requires c =
    ap length c.in_ok-found.ensures ∙ length-replicate c.net_count.result false ∙ c.net_count.ensures

pub nets-init : goal.nets-init
nets-init c =
    closing_start c.args.c.now c.args.through c.args.nets.now c.add_firsts.new.self
    c.in_ok-add_firsts.ensures.each_net
    (λ i.
    c.in_ok-add_firsts.ensures.marks i
    ∙ ap (λ (b : Bool). b || is_first (length c.args.c.now.nets) c.args.nets.now i)
    (ap (λ (ms : List Bool). marked_in ms i) c.in_ok-found.ensures ∙ unmarked c.net_count.result i))

pub nets-smaller : goal.nets-smaller
nets-smaller c =
    let below = slice_get_within c.nets.found.nets c.nets.next c.in-Some.net (sym c.in-Some.ensures.is) in
    let few = waiting_few c.nets.found c.in-Some.ensures.once in
    let each = c.nets.invariant.each_net in
    let less : length c.args.c.now.nets - (c.nets.next + 1) < length c.args.c.now.nets - c.nets.next =
    omega (arith, below, few, each) in
    less

pub nets-preserved : goal.nets-preserved
nets-preserved c =
    closing_more c.args.c.now c.args.through c.args.nets.now c.nets.found c.add_behind.new.self c.nets.next
    c.in-Some.net c.in-Some.ensures.once (sym c.in-Some.ensures.is) c.nets.invariant
    c.in_ok-add_behind.ensures

pub returns : goal.returns
returns c =
    closing_end c.args.c.now c.args.through c.args.nets.now c.nets.found c.nets.next c.in_default.ensures.once
    (sym c.in_default.ensures.is) c.nets.invariant
