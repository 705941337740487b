use Rattle.std.proofs.Common.{◌≡◌, ◌∙◌, ◌+◌, ◌-◌, ◌<◌, Bool, List, length, ap, sym, subst, arith, false}
use Rattle.std.proofs.lemmas.List.{take_all, length-replicate}
use Rattle.std.proofs.lemmas.Option.{slice_get_within}
use Rattle.flat_circuit.specs.declared.case.CaseValue.{CaseValue}
use Rattle.fixpoint_engine.specs.Settled.{marked_in}
use Rattle.fixpoint_engine.proofs.Waiting.{unmarked, waiting_few}
use Rattle.case_analysis.specs.Case.{IsCone, is_set}
use Rattle.case_analysis.proofs.Coning.{closing_start, closing_more, closing_end, found_below, set_more}
use Rattle.case_analysis.proofs.cones.cone.Goals as goal

pub loop-value-init : goal.loop-value-init
loop-value-init c = record {
  each_net = ap length c.in_ok-found.ensures ∙ length-replicate c.net_count.result false ∙ c.net_count.ensures;
  marks = λ i. ap (λ (ms : List Bool). marked_in ms i) c.in_ok-found.ensures ∙ unmarked c.net_count.result i;
}

pub loop-value-preserved : goal.loop-value-preserved
loop-value-preserved c = record {
  each_net = c.in_ok-add.ensures.adds.each_net ∙ c.loop-value.invariant.each_net;
  marks = set_more c.args.case.now c.as_slice-value-items.result.now c.loop-value.value-index _ c.loop-value.found
      c.add.new.self c.as_slice-value-items.ensures c.loop-value-test.true c.in_ok-add.ensures c.loop-value.invariant.marks;
}

pub nets-init : goal.nets-init
nets-init c =
    let long : length c.as_slice-value-items.result.now ≡ length c.args.case.now = ap length c.as_slice-value-items.ensures in
    closing_start c.args.c.now c.args.case.now c.loop-value.found c.loop-value.invariant.each_net
    (λ i. c.loop-value.invariant.marks i ∙ ap (λ (vs : List CaseValue). is_set vs i) (take_all c.loop-value.value-index c.args.case.now (omega (arith, long, c.loop-value-test.false))))

pub add_hearers-requires-clause-exists : goal.add_hearers-requires-clause-exists
add_hearers-requires-clause-exists c =
    found_below c.args.c.now c.nets.found c.nets.next c.in-Some.net c.in-Some.ensures.once c.nets.invariant.each_net (sym c.in-Some.ensures.is)

pub nets-smaller : goal.nets-smaller
nets-smaller c =
    let below = slice_get_within c.nets.found.nets c.nets.next c.in-Some.net (sym c.in-Some.ensures.is) in
    let few = waiting_few c.nets.found c.in-Some.ensures.once in
    let each = c.nets.invariant.each_net in
    let less : length c.args.c.now.nets - (c.nets.next + 1) < length c.args.c.now.nets - c.nets.next = omega (arith, below, few, each) in
    less

pub nets-preserved : goal.nets-preserved
nets-preserved c =
    closing_more c.args.c.now c.args.case.now c.nets.found c.add_hearers.new.self c.nets.next
    c.in-Some.net c.in-Some.ensures.once (sym c.in-Some.ensures.is) c.nets.invariant c.in_ok-add_hearers.ensures

pub returns-clause-is : goal.returns-clause-is
returns-clause-is c =
    subst (λ (ms : List Bool). IsCone c.args.c.now c.args.case.now (marked_in ms)) (sym c.into_set.ensures)
    (closing_end c.args.c.now c.args.case.now c.nets.found c.nets.next c.in_default.ensures.once (sym c.in_default.ensures.is) c.nets.invariant)
