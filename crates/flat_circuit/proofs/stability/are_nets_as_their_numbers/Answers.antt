use Rattle.std.proofs.Common.{arith, ℕ, [], sym, subst}
use Rattle.flat_circuit.specs.Alike.{class_of}
use Rattle.flat_circuit.specs.Stable.{AreAlikeAt}
use Rattle.flat_circuit.proofs.Pairs.{next_one, as_its_number, stable_by_numbers}
use Rattle.flat_circuit.proofs.stability.are_nets_as_their_numbers.Goals as goal

pub returns-then-not-are_alike : goal.returns-then-not-are_alike
returns-then-not-are_alike c stable =
    let no = c.if-not-are_alike.ensures in
    no (subst (λ (r : ℕ). AreAlikeAt c.args.c.now [] c.args.classes.now c.loop-net.net r) (sym c.class_of.ensures)
    (as_its_number c.args.c.now [] c.args.classes.now c.loop-net.net c.requires.numbers
    (omega (arith, c.requires.one_each, c.net_count-net-end.ensures, c.loop-net-test.true)) stable))

pub loop-net-preserved : goal.loop-net-preserved
loop-net-preserved c =
    let here = c.if-not-are_alike.ensures in
    next_one (λ (i : ℕ). AreAlikeAt c.args.c.now [] c.args.classes.now i (class_of c.args.classes.now i)) c.loop-net.net c.loop-net.invariant
    (subst (λ (r : ℕ). AreAlikeAt c.args.c.now [] c.args.classes.now c.loop-net.net r) c.class_of.ensures here)

pub returns : goal.returns
returns c =
    stable_by_numbers c.args.c.now [] c.args.classes.now c.requires.one_each c.requires.numbers
    (λ i below. c.loop-net.invariant i (omega (arith, below, c.net_count-net-end.ensures, c.loop-net-test.false)))
