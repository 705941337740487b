use Rattle.std.proofs.Common.{◌≡◌, ◌∙◌, ◌+◌, ◌∷◌, List, drop, length, ap, sym, subst, arith}
use Rattle.std.proofs.lemmas.List.{drop_more}
use Rattle.std.proofs.Math.ListN.{drop_of_length-le}
use Rattle.std.proofs.lemmas.Result.{err_from_is_err_and}
use Rattle.flat_circuit.specs.declared.case.CaseValue.{CaseValue}
use Rattle.drawing_tree.specs.declared.drawing.CaseStmt.{CaseStmt}
use Rattle.drawing_tree.specs.declared.drawing.CaseEntry.{CaseEntry}
use Rattle.case_analysis.specs.Listed.{IsCaseOf, IsCaseStop}
use Rattle.case_analysis.proofs.Listing.{Passing, passing_more, passing_wrong}
use Rattle.case_analysis.proofs.case_list.cases_of.Goals as goal

pub returns-in_err-listed-clause-is : goal.returns-in_err-listed-clause-is
returns-in_err-listed-clause-is c =
    let i = c.loop-case.case-index in
    let w = c.case-item.result in
    let next : drop i c.args.written.now ≡ w ∷ drop (i + 1) c.args.written.now =
    drop_more c.args.written.now i w c.loop-case-test.true ∙ ap (λ (x : CaseStmt). x ∷ drop (i + 1) c.args.written.now) (sym c.case-item.is) in
    let p = err_from_is_err_and c.from_residual.result c.from_residual.ensures.1 in
    rw (p.1, p.2) (passing_wrong c.args.c.now c.args.written.now (drop i c.args.written.now) (drop (i + 1) c.args.written.now) c.loop-case.cases w next c.loop-case.invariant c.in_err-listed.field-0.0
    (subst (λ (es : List CaseEntry). IsCaseStop c.args.c.now es c.in_err-listed.field-0.0) c.as_slice.ensures c.in_err-listed.ensures.is))

pub loop-case-preserved : goal.loop-case-preserved
loop-case-preserved c =
    let i = c.loop-case.case-index in
    let w = c.case-item.result in
    let next : drop i c.args.written.now ≡ w ∷ drop (i + 1) c.args.written.now =
    drop_more c.args.written.now i w c.loop-case-test.true ∙ ap (λ (x : CaseStmt). x ∷ drop (i + 1) c.args.written.now) (sym c.case-item.is) in
    let is : IsCaseOf c.args.c.now w.entries c.in_ok-listed.listed = subst (λ (es : List CaseEntry). IsCaseOf c.args.c.now es c.in_ok-listed.listed) c.as_slice.ensures c.in_ok-listed.ensures.is in
    subst (λ (cases : List (List CaseValue)). Passing c.args.c.now c.args.written.now (drop (i + 1) c.args.written.now) cases) (sym c.in_ok-push.ensures.ok)
    (passing_more c.args.c.now c.args.written.now (drop i c.args.written.now) (drop (i + 1) c.args.written.now)
    c.loop-case.cases w next c.loop-case.invariant c.in_ok-listed.listed is c.in_ok-listed.ensures.listed)

pub returns-clause-each : goal.returns-clause-each
returns-clause-each c =
    let i = c.loop-case.case-index in
    let each = c.loop-case.invariant.each in
    let past = c.loop-case-test.false in
    omega (arith, each, ap length (drop_of_length-le c.args.written.now past))
