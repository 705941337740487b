use Rattle.std.proofs.Common.{◌≡◌, arith, length, take, sym, subst}
use Rattle.std.proofs.lemmas.List.{take_all}
use Rattle.std.proofs.lemmas.List.Elements.{All-more, All-same}
use Rattle.flat_circuit.specs.Stable.{IsAsNumbersIn}
use Rattle.flat_circuit.proofs.case_values.are_cases_as_their_numbers.Goals as goal

pub returns-then-not-is_as_numbers_in : goal.returns-then-not-is_as_numbers_in
returns-then-not-is_as_numbers_in c all =
    c.if-not-is_as_numbers_in.ensures
    (subst (IsAsNumbersIn (length c.args.c.now.nets) c.args.classes.now) (sym c.as_slice.ensures)
    (subst (IsAsNumbersIn (length c.args.c.now.nets) c.args.classes.now) (sym c.case-item.is) (all c.loop-case.case-index c.case-item.result (omega arith))))

pub loop-case-preserved : goal.loop-case-preserved
loop-case-preserved c =
    All-more (IsAsNumbersIn (length c.args.c.now.nets) c.args.classes.now) c.args.cases.now c.loop-case.case-index c.case-item.result
    (omega arith) c.loop-case.invariant
    (subst (IsAsNumbersIn (length c.args.c.now.nets) c.args.classes.now) c.case-item.is
    (subst (IsAsNumbersIn (length c.args.c.now.nets) c.args.classes.now) c.as_slice.ensures c.if-not-is_as_numbers_in.ensures))

pub returns : goal.returns
returns c =
    let all : take c.loop-case.case-index c.args.cases.now ≡ c.args.cases.now = take_all c.loop-case.case-index c.args.cases.now (omega arith) in
    All-same (IsAsNumbersIn (length c.args.c.now.nets) c.args.classes.now) c.args.cases.now (take c.loop-case.case-index c.args.cases.now)
    (sym all) c.loop-case.invariant
