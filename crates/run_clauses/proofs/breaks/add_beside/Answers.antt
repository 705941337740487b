use Rattle.std.proofs.Common.{true≢false, sym, ap, ◌∙◌, arith, below_more}
use Rattle.std.proofs.lemmas.Result.{on_ok_weaker}
use Rattle.run_clauses.specs.Clauses.{clause_holds}
use Rattle.run_clauses.proofs.Pushing.{pushed}
use Rattle.run_clauses.proofs.breaks.add_beside.Goals as goal

pub loop-beside-init : goal.loop-beside-init
loop-beside-init c bits fails p below = absurd (omega arith)

pub loop-beside-preserved : goal.loop-beside-preserved
loop-beside-preserved c bits fails =
    let parts = c.in_ok-put_beside.ensures bits fails in
    below_more _ _ (c.loop-beside.invariant bits parts.0) parts.1

pub returns : goal.returns
returns c =
    on_ok_weaker c.push.result
    (λ e bits is before.
    pushed bits c.args.formula.now c.push.new.self c.deref.result.now e
    (λ fails.
    let none =
    c.loop-beside.invariant bits (ap (clause_holds bits) (sym c.deref.ensures.value) ∙ fails) is.pin
    (let below = is.below in omega arith) is.apart in
    true≢false (sym is.is ∙ none)) before)
    c.push.ensures
