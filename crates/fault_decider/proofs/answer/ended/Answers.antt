use Rattle.std.proofs.Common.{ℕ, Option, subst, sym}
use Rattle.fault_decider.specs.Decided.{Concluded}
use Rattle.fault_decider.specs.Reporting.{Holds}
use Rattle.fault_decider.proofs.answer.ended.Goals as goal

pub returns-in-Some : goal.returns-in-Some
returns-in-Some c c' base cases holds kept =
    let version = c.args.question.version in
    let reply = c.ended_trace.result in
    subst (λ (t : Option ℕ). Concluded version c' base cases t reply.outcome reply.bytes)
    (sym c.in-Some.is)
    (c.ended_trace.ensures version c' base c.in-Some.field-0 cases
    (subst (λ (t : Option ℕ). Holds t version c' base c.args.answer cases) c.in-Some.is holds))
