use Rattle.std.proofs.Common.{[], ◌∷◌, true, false, true≢false, sym, ap, ◌∙◌, arith, below_more}
use Rattle.std.proofs.lemmas.Result.{on_ok_weaker}
use Rattle.run_clauses.specs.declared.fact.Fact.TheVariants.{First, Lasts}
use Rattle.run_clauses.specs.Clauses.{clause_holds}
use Rattle.run_clauses.specs.Forms.{said}
use Rattle.run_clauses.proofs.Holding.{implied}
use Rattle.run_clauses.proofs.Pushing.{added, pushed, put_more}
use Rattle.run_clauses.proofs.breaks.add_firsts.Goals as goal

pub loop-tick-init : goal.loop-tick-init
loop-tick-init c = record {
  clauses = λ bits is before. before;
  put = λ bits fails t below least. absurd (omega arith);
}

pub loop-tick-preserved : goal.loop-tick-preserved
loop-tick-preserved c =
    let t = c.loop-tick.tick in
    record {
      clauses = λ bits is before.
          added bits c.loop-tick.formula c.push.new.self
          (said (First t) false ∷ said (Lasts t) true ∷ []) (cc c.in_ok-push.ensures)
          (implied bits (First t) (Lasts t) true (is.lasts t))
          (c.loop-tick.invariant.clauses bits is before);
      put = λ bits fails.
          let parts =
          put_more bits c.loop-tick.some.items c.push-in-loop-tick.new.self.items
          (said (First t) true)
          (cc c.in_ok-push-2.ensures.items) fails in
          below_more _ _ (c.loop-tick.invariant.put bits parts.0) (λ least. parts.1);
    }

pub returns : goal.returns
returns c =
    on_ok_weaker c.push-2.result
    (λ e bits is before.
    pushed bits c.loop-tick.formula c.push-2.new.self c.deref.result.now e
    (λ fails.
    let from = is.from in
    let end = is.before in
    let none =
    c.loop-tick.invariant.put bits (ap (clause_holds bits) (sym c.deref.ensures.value) ∙ fails)
    is.tick
    (omega arith) (omega arith) in
    true≢false (sym is.is ∙ none))
    (c.loop-tick.invariant.clauses bits is before))
    c.push-2.ensures
