use Rattle.run_clauses.proofs.Numbered.{begins_push, begins_same}
use Rattle.run_clauses.proofs.formula.number_of.Goals as goal

pub returns-then-eq-clause-more : goal.returns-then-eq-clause-more
returns-then-eq-clause-more c = begins_same c.args.facts.now.items

pub returns-in_default-try_from-clause-more : goal.returns-in_default-try_from-clause-more
returns-in_default-try_from-clause-more c = begins_same c.args.facts.now.items

pub returns-in_err-insert-clause-more : goal.returns-in_err-insert-clause-more
returns-in_err-insert-clause-more c = begins_same c.args.facts.now.items

pub returns-in_err-push-clause-more : goal.returns-in_err-push-clause-more
returns-in_err-push-clause-more c = rw c.in_err-push.ensures.items
    (begins_same c.args.facts.now.items)

pub returns-clause-more : goal.returns-clause-more
returns-clause-more c = rw c.in_ok-push.ensures.items
    (begins_push c.args.facts.now.items c.args.fact)
