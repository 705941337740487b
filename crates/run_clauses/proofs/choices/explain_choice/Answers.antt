use Rattle.std.proofs.Common.{true≢false, sym, ap, ◌∙◌}
use Rattle.std.proofs.lemmas.Result.{on_ok_weaker}
use Rattle.run_clauses.specs.Clauses.{clause_holds}
use Rattle.run_clauses.specs.World.{fact_holds}
use Rattle.run_clauses.proofs.Pushing.{pushed}
use Rattle.run_clauses.proofs.choices.explain_choice.Goals as goal

pub returns : goal.returns
returns c =
    on_ok_weaker c.push.result
    (λ e values x printed w is before.
    let bits = fact_holds c.args.c.now w in
    pushed bits c.args.formula.now c.push.new.self c.deref.result.now e
    (λ fails.
    let chosen = c.in-Some.ensures values x printed w is in
    let none =
    c.in_ok-put_numbers.ensures bits (ap (clause_holds bits) (sym c.deref.ensures.value) ∙ fails) in
    true≢false (sym chosen.is ∙ none.1 chosen.number chosen.end chosen.from)) before)
    c.push.ensures
