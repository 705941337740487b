use Rattle.std.proofs.Common.{rules, arith, ◌≡◌, List, take, sym, subst}
use Rattle.std.proofs.lemmas.List.{take_all}
use Rattle.std.proofs.lemmas.List.Elements.{All-more, All-same}
use Rattle.flat_circuit.specs.declared.case.CaseValue.{CaseValue}
use Rattle.flat_circuit.specs.Alike.{value_in}
use Rattle.flat_circuit.proofs.likeness.are_cases_alike.Goals as goal

pub loop-case-preserved : goal.loop-case-preserved
loop-case-preserved c =
    let here : value_in c.case-item.result c.args.net ≡ value_in c.case-item.result c.args.other = search rules in
    All-more (λ (values : List CaseValue). value_in values c.args.net ≡ value_in values c.args.other) c.args.cases.now c.loop-case.case-index c.case-item.result
    (omega arith) c.loop-case.invariant
    (subst (λ (values : List CaseValue). value_in values c.args.net ≡ value_in values c.args.other) c.case-item.is here)

pub returns : goal.returns
returns c =
    let all : take c.loop-case.case-index c.args.cases.now ≡ c.args.cases.now = take_all c.loop-case.case-index c.args.cases.now (omega arith) in
    All-same (λ (values : List CaseValue). value_in values c.args.net ≡ value_in values c.args.other) c.args.cases.now (take c.loop-case.case-index c.args.cases.now)
    (sym all) c.loop-case.invariant
