use Rattle.std.proofs.Common.{◌≡◌, ℕ, List, arith, ap, subst, sym, ◌∙◌}
use Rattle.std.proofs.lemmas.List.{take_all}
use Rattle.std.proofs.lemmas.List.Elements.{All-more, All-same}
use Rattle.flat_circuit.specs.declared.case.CaseValue.{CaseValue}
use Rattle.case_analysis.specs.Reached.{nets_set}
use Rattle.case_analysis.proofs.reached.all_set_the_same.Goals as goal

pub loop-case-preserved : goal.loop-case-preserved
loop-case-preserved c =
    let same : List CaseValue → Type 0 = λ case. nets_set c.args.first.now ≡ nets_set case in
    let w = c.case-item.result in
    All-more same c.args.cases.now c.loop-case.case-index w c.loop-case-test.true c.loop-case.invariant
    (subst same c.case-item.is
    (ap nets_set (sym c.as_slice.ensures) ∙ c.sets_the_same.ensures c.if-not-sets_the_same.false ∙ ap nets_set c.as_slice-in-loop-case.ensures))

pub returns : goal.returns
returns c = λ _.
    All-same (λ case. nets_set c.args.first.now ≡ nets_set case) c.args.cases.now _
    (sym (take_all c.loop-case.case-index c.args.cases.now (omega arith))) c.loop-case.invariant
