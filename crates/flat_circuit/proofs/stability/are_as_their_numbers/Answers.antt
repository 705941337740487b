use Rattle.flat_circuit.proofs.Pairs.{apart, either_way, stable_with_values, values_as_numbers}
use Rattle.flat_circuit.proofs.stability.are_as_their_numbers.Goals as goal

pub returns-then-not-are_nets_as_their_numbers : goal.returns-then-not-are_nets_as_their_numbers
returns-then-not-are_nets_as_their_numbers c stable =
    c.if-not-are_nets_as_their_numbers.ensures (apart c.args.c.now c.args.cases.now c.args.classes.now stable)

pub returns : goal.returns
returns c =
    either_way c.are_cases_as_their_numbers.result
    (stable_with_values c.args.c.now c.args.cases.now c.args.classes.now c.requires.one_each c.requires.numbers c.if-not-are_nets_as_their_numbers.ensures)
    (values_as_numbers c.args.c.now c.args.cases.now c.args.classes.now c.requires.one_each c.requires.numbers)
    c.are_cases_as_their_numbers.ensures
