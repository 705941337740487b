use Rattle.std.proofs.Common.{◌-◌, true, false}
use Rattle.std.proofs.lemmas.Result.{on_ok_weaker}
use Rattle.run_clauses.specs.declared.fact.Fact.{Fact}
use Rattle.run_clauses.specs.declared.fact.Fact.TheVariants.{Pin}
use Rattle.run_clauses.specs.Forms.{said}
use Rattle.run_clauses.proofs.Holding.{kept_as, register_forced, register_kept, register_low, register_taken, taken_as}
use Rattle.run_clauses.proofs.storage.add_register.Goals as goal

pub returns : goal.returns
returns c =
    let s = c.args.storage in
    let before : Fact = Pin s.net.instance 0 (s.tick - 1) in
    let after : Fact = Pin s.net.instance 0 s.tick in
    on_ok_weaker c.add_forced.result
    (λ added bits is hold.
    added bits (register_forced bits s is)
    (c.in_ok-add_kept-2.ensures bits
    (kept_as bits s c.is-2.result (said after true) (cc) (register_low bits s is))
    (c.in_ok-add_kept.ensures bits
    (kept_as bits s c.is_not-2.result (said before false) (cc) (register_kept bits s is))
    (c.in_ok-add_taken.ensures bits
    (taken_as bits s c.is.result c.is_not.result (said before true) (said after false) (cc) (cc)
    (register_taken bits s is)) hold))))
    c.add_forced.ensures
