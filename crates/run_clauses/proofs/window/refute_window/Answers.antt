use Rattle.std.proofs.Common.{subst}
use Rattle.std.proofs.lemmas.Result.{IfOk-weaker}
use Rattle.scald_base.specs.Time.{Header, IsHeader}
use Rattle.run_clauses.proofs.Refuted.{never_breaks}
use Rattle.run_clauses.proofs.window.refute_window.Goals as goal

pub returns : goal.returns
returns c =
    let circuit = c.args.c.now in
    let values = c.args.values.now in
    let x = c.args.x in
    IfOk-weaker c.is_refuted.result _ _
    (λ yes refuted true.
    never_breaks circuit values x c.args.printed c.explain_all.new.formula
    (subst (λ (h : Header). IsHeader h) c.header.ensures c.known.ensures) c.requires.far
    c.requires.short
    (λ w is before.
    c.in_ok-explain_all.ensures x c.args.printed w is
    (c.in_ok-add_break.ensures values w is (rw c.new-formula.ensures before))) (refuted true))
    c.is_refuted.ensures
