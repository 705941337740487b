use Rattle.std.proofs.Common.{◌≡◌, ◌<◌, ◌≤◌, ℕ, sym, ap, ◌∙◌, arith, length}
use Rattle.std.proofs.lemmas.List.{get_or-replicate}
use Rattle.flat_circuit.specs.Instances.{most_bits}
use Rattle.flat_circuit.specs.Alike.{class_of, value_in}
use Rattle.flat_circuit.specs.Table.{said}
use Rattle.flat_circuit.proofs.Pairs.{next_one, number_below}
use Rattle.flat_circuit.proofs.case_values.is_as_numbers_in.Goals as goal

pub say_all-requires : goal.say_all-requires
say_all-requires c i below = ap said (get_or-replicate 65536 i 0 0 below)

pub returns-then-not-has_value_of_number : goal.returns-then-not-has_value_of_number
returns-then-not-has_value_of_number c all =
    let few : length c.args.c.now.nets ≤ most_bits = c.known.ensures.few_nets in
    let net : c.loop-net.net < length c.args.c.now.nets = omega (arith, c.net_count-net-end.ensures, c.loop-net-test.true) in
    let number = number_below c.args.classes.now c.loop-net.net c.requires.numbers (omega (arith, c.requires.one_each, net)) in
    c.if-not-has_value_of_number.ensures
    (c.say_all.ensures c.loop-net.net (omega (arith, few, net)) ∙ all c.loop-net.net net
    ∙ sym (c.say_all.ensures (class_of c.args.classes.now c.loop-net.net) (omega (arith, few, c.requires.one_each, number))))

pub loop-net-preserved : goal.loop-net-preserved
loop-net-preserved c =
    let few : length c.args.c.now.nets ≤ most_bits = c.known.ensures.few_nets in
    let net : c.loop-net.net < length c.args.c.now.nets = omega (arith, c.net_count-net-end.ensures, c.loop-net-test.true) in
    let number = number_below c.args.classes.now c.loop-net.net c.requires.numbers (omega (arith, c.requires.one_each, net)) in
    next_one (λ (i : ℕ). value_in c.args.case.now i ≡ value_in c.args.case.now (class_of c.args.classes.now i)) c.loop-net.net c.loop-net.invariant
    (sym (c.say_all.ensures c.loop-net.net (omega (arith, few, net))) ∙ c.if-not-has_value_of_number.ensures
    ∙ c.say_all.ensures (class_of c.args.classes.now c.loop-net.net) (omega (arith, few, c.requires.one_each, number)))

pub returns : goal.returns
returns c i below = c.loop-net.invariant i (omega (arith, below, c.net_count-net-end.ensures, c.loop-net-test.false))
