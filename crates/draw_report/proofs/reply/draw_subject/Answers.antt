use Rattle.std.proofs.Common.{subst, sym, ℕ}
use Rattle.std.specs.Prelude.{IfOk}
use Rattle.std.specs.Option.{option_copied}
use Rattle.program_call.specs.Answer.{limit_for}
use Rattle.draw_report.specs.declared.asked.Asked.{Asked}
use Rattle.draw_report.specs.Answer.{DrawsAsked, DrawsCase, DrawsLimits}
use Rattle.draw_report.proofs.reply.draw_subject.Goals as goal

pub returns-in-Case : goal.returns-in-Case
returns-in-Case g c =
    let subject = c.args.subject.now in
    let under = option_copied c.args.under in
    subst (λ (asked : Asked). IfOk c.draw_case.result (λ reply. DrawsAsked asked under subject.circuit
    subject.cases (limit_for subject.circuit c.args.request.rounds) reply.outcome reply.bytes))
    (sym c.in-Case.is)
    (subst (λ (n : ℕ). IfOk c.draw_case.result (λ reply. DrawsCase c.in-Case.number subject.circuit
    subject.cases n reply.outcome reply.bytes)) c.limit_of-limit.ensures.is
    c.draw_case.ensures)

pub returns-in_ok-drawing-in-Limits : goal.returns-in_ok-drawing-in-Limits
returns-in_ok-drawing-in-Limits g c =
    let subject = c.args.subject.now in
    let under = option_copied c.args.under in
    subst (λ (asked : Asked). IfOk c.draw_of_limits.result (λ reply. DrawsAsked asked under subject.circuit
    subject.cases (limit_for subject.circuit c.args.request.rounds) reply.outcome reply.bytes))
    (sym c.in-Limits.is)
    (subst (λ (n : ℕ). IfOk c.draw_of_limits.result (λ reply. DrawsLimits c.in-Limits.limits under
    subject.circuit subject.cases n reply.outcome reply.bytes)) c.limit_of-limit.ensures.is
    c.draw_of_limits.ensures)
