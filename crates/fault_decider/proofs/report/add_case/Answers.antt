use Rattle.std.proofs.Common.{ℕ, ◌++◌, ◌∷◌, [], List, Option, subst, sym}
use Rattle.std.proofs.lemmas.Result.{on_ok_weaker}
use Rattle.program_call.specs.Reporter.{OfCases}
use Rattle.fault_decider.specs.Reporting.{Holds}
use Rattle.fault_decider.proofs.report.add_case.Goals as goal

pub returns-in-None : goal.returns-in-None
returns-in-None c =
    let cc = c.args.c.now in
    let base = c.args.base in
    let version = c.args.question.version in
    on_ok_weaker c.add_told_case.result
    (λ added limit before listed values is so_far.
    subst (λ (t : Option ℕ). OfCases cc limit base (before ++ listed ∷ []) (Holds t version cc base c.add_told_case.new.answer))
    (sym c.in-None.is)
    (added limit before listed values is
    (subst (λ (t : Option ℕ). OfCases cc limit base before (Holds t version cc base c.args.answer.now)) c.in-None.is so_far)))
    c.add_told_case.ensures

pub returns-in-Some : goal.returns-in-Some
returns-in-Some c =
    let cc = c.args.c.now in
    let base = c.args.base in
    let version = c.args.question.version in
    on_ok_weaker c.seek_case.result
    (λ added limit before listed values is so_far.
    subst (λ (t : Option ℕ). OfCases cc limit base (before ++ listed ∷ []) (Holds t version cc base c.seek_case.new.answer))
    (sym c.in-Some.is)
    (added limit base before listed c.args.store.now values is
    (subst (λ (t : Option ℕ). OfCases cc limit base before (Holds t version cc base c.args.answer.now)) c.in-Some.is so_far)))
    c.seek_case.ensures
