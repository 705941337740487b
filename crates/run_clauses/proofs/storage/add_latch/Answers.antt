use Rattle.std.proofs.Common.{true, false}
use Rattle.std.proofs.lemmas.Result.{on_ok_weaker}
use Rattle.run_clauses.specs.declared.fact.Fact.{Fact}
use Rattle.run_clauses.specs.declared.fact.Fact.TheVariants.{Pin}
use Rattle.run_clauses.specs.Forms.{said}
use Rattle.run_clauses.proofs.Holding.{kept_as, latch_forced, latch_kept, latch_taken, taken_as}
use Rattle.run_clauses.proofs.storage.add_latch.Goals as goal

pub returns : goal.returns
returns c =
    let s = c.args.storage in
    let enable : Fact = Pin s.net.instance 0 s.tick in
    on_ok_weaker c.add_forced.result
    (λ added bits is hold.
    added bits (latch_forced bits s is)
    (c.in_ok-add_kept.ensures bits
    (kept_as bits s c.is.result (said enable true) (cc) (latch_kept bits s is))
    (c.in_ok-add_taken.ensures bits
    (taken_as bits s c.is_not.result c.is_not-2.result (said enable false) (said enable false) (cc)
    (cc)
    (latch_taken bits s is)) hold)))
    c.add_forced.ensures
