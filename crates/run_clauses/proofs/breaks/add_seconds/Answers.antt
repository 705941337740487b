use Rattle.std.proofs.Common.{[], ◌∷◌, true, false, true≢false, sym, ap, ◌∙◌, arith, below_more}
use Rattle.std.proofs.lemmas.Result.{on_ok_weaker}
use Rattle.run_clauses.specs.declared.fact.Fact.TheVariants.{First, Second}
use Rattle.run_clauses.specs.Clauses.{clause_holds}
use Rattle.run_clauses.specs.Forms.{said}
use Rattle.run_clauses.proofs.Pushing.{begun, not_false, pushed, put_more}
use Rattle.run_clauses.proofs.breaks.add_seconds.Goals as goal

pub loop-tick-init : goal.loop-tick-init
loop-tick-init c bits fails = (
  not_false (bits (First c.args.first))
      (begun bits c.begin.new.some.items (said (First c.args.first) false ∷ [])
      (cc c.in_ok-begin.ensures) fails).0,
  λ t below least. absurd (omega arith),
)

pub loop-tick-preserved : goal.loop-tick-preserved
loop-tick-preserved c bits fails =
    let parts =
    put_more bits c.loop-tick.some.items c.push.new.self.items (said (Second c.loop-tick.tick) true)
    (cc c.in_ok-push.ensures.items) fails in
    let before = c.loop-tick.invariant bits parts.0 in
    (before.0, below_more _ _ before.1 (λ least. parts.1))

pub returns : goal.returns
returns c =
    on_ok_weaker c.push-2.result
    (λ e bits is before.
    pushed bits c.args.formula.now c.push-2.new.self c.deref.result.now e
    (λ fails.
    let parts =
    c.loop-tick.invariant bits (ap (clause_holds bits) (sym c.deref.ensures.value) ∙ fails) in
    let second = is parts.0 in
    let from = second.from in
    let end = second.before in
    true≢false (sym second.is ∙ parts.1 second.tick (omega arith) (omega arith))) before)
    c.push-2.ensures
