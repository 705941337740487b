use Rattle.std.proofs.Common.{◌≡◌, ◌∙◌, ◌+◌, ◌∷◌, List, drop, length, false, true, ap, sym, subst, refl}
use Rattle.std.proofs.lemmas.List.{drop_more, length-replicate}
use Rattle.flat_circuit.specs.declared.case.CaseValue.{CaseValue}
use Rattle.drawing_tree.specs.declared.drawing.CaseEntry.{CaseEntry}
use Rattle.case_analysis.specs.Listed.{IsCaseStop, IsJudged, MaySet}
use Rattle.case_analysis.proofs.Listing.{Going, going_start, going_more, going_wrong}
use Rattle.case_analysis.proofs.case_list.case_of.Goals as goal

pub loop-entry-init : goal.loop-entry-init
loop-entry-init c =
    subst (λ (case : List CaseValue). Going c.args.c.now c.args.entries.now c.args.entries.now c.in_ok-named.named case) (sym c.new-case.ensures)
    (going_start c.args.c.now c.args.entries.now c.args.entries.now c.in_ok-named.named c.net_count.result
    c.net_count.ensures c.in_ok-named.ensures (ap length c.in_ok-named.ensures ∙ length-replicate c.net_count.result false) refl)

pub returns-in-None-clause-is : goal.returns-in-None-clause-is
returns-in-None-clause-is c =
    let i = c.loop-entry.entry-index in
    let e = c.entry-item.result in
    let next : drop i c.args.entries.now ≡ e ∷ drop (i + 1) c.args.entries.now =
    drop_more c.args.entries.now i e c.loop-entry-test.true ∙ ap (λ (x : CaseEntry). x ∷ drop (i + 1) c.args.entries.now) (sym c.entry-item.is) in
    subst (IsCaseStop c.args.c.now c.args.entries.now) (sym c.refused.ensures)
    (going_wrong c.args.c.now c.known.ensures c.args.entries.now (drop i c.args.entries.now) (drop (i + 1) c.args.entries.now) c.loop-entry.named c.loop-entry.case e next c.loop-entry.invariant
    (rw c.in-None.is at c.in_ok-value.ensures.judged))

pub loop-entry-preserved : goal.loop-entry-preserved
loop-entry-preserved c =
    let i = c.loop-entry.entry-index in
    let e = c.entry-item.result in
    let next : drop i c.args.entries.now ≡ e ∷ drop (i + 1) c.args.entries.now =
    drop_more c.args.entries.now i e c.loop-entry-test.true ∙ ap (λ (x : CaseEntry). x ∷ drop (i + 1) c.args.entries.now) (sym c.entry-item.is) in
    let judged : IsJudged c.args.c.now c.loop-entry.named e true = rw c.in-Some.is at c.in_ok-value.ensures.judged in
    let may : MaySet c.args.c.now c.loop-entry.named e c.in-Some.value = rw c.in-Some.is at c.in_ok-value.ensures.value in
    subst (λ (case : List CaseValue). Going c.args.c.now c.args.entries.now (drop (i + 1) c.args.entries.now) c.add.new.self case) (sym c.in_ok-push-in-Some.ensures.ok)
    (going_more c.args.c.now c.known.ensures c.args.entries.now (drop i c.args.entries.now) (drop (i + 1) c.args.entries.now)
    c.loop-entry.named c.loop-entry.case e next c.loop-entry.invariant c.add.new.self c.in-Some.value judged may c.add.ensures)
