use Rattle.std.proofs.Common.{[], ◌∷◌, ◌∙◌, false, subst, sym}
use Rattle.std.proofs.lemmas.Result.{on_ok_weaker}
use Rattle.scald_base.specs.Time.{Header}
use Rattle.run_clauses.specs.declared.fact.Fact.TheVariants.{Lasts, Net}
use Rattle.run_clauses.specs.Forms.{said}
use Rattle.run_clauses.specs.Meaning.{IsClock, Stays}
use Rattle.run_clauses.specs.World.{fact_holds}
use Rattle.run_clauses.proofs.Inputs.{of_case, of_clock, of_none, of_stable}
use Rattle.run_clauses.proofs.Pushing.{added, differs, not_false, other_bit}
use Rattle.run_clauses.proofs.undriven.explain_undriven.Goals as goal

pub returns-in-Some : goal.returns-in-Some
returns-in-Some c =
    let i = c.args.input in
    let one = c.in-Some.one in
    on_ok_weaker c.push.result
    (λ e x printed w is before.
    let bits = fact_holds c.args.c.now w in
    added bits c.args.formula.now c.push.new.self
    (said (Lasts i.tick) false ∷ said (Net i.net i.tick) one ∷ []) (cc)
    (λ none.
    differs (bits (Net i.net i.tick)) one
    (of_case c.args.c.now c.args.values.now x printed w is i.net i.tick one c.in-Some.ensures
    (not_false (bits (Lasts i.tick)) none.0)) (other_bit one (bits (Net i.net i.tick)) none.1.0))
    before)
    c.push.ensures

pub returns-in-None : goal.returns-in-None
returns-in-None c =
    let i = c.args.input in
    on_ok_weaker c.add_same.result
    (λ adds x printed w is before.
    adds (fact_holds c.args.c.now w)
    (of_none c.args.c.now c.args.values.now x printed w is i.net i.tick c.args.found.now
    c.requires.there
    c.requires.undriven (sym c.or.ensures ∙ c.in-None.is)) before)
    c.add_same.ensures

pub returns-in-Precision : goal.returns-in-Precision
returns-in-Precision c =
    let i = c.args.input in
    let clock = c.in-Precision.clock in
    on_ok_weaker c.add_clock.result
    (λ adds x printed w is before.
    let bits = fact_holds c.args.c.now w in
    adds bits
    (subst (λ (h : Header). IsClock i h clock bits) (sym c.header.ensures)
    (of_clock c.args.c.now c.args.values.now x printed w is i.net i.tick c.args.found.now
    c.requires.there
    c.requires.undriven clock (sym c.or.ensures ∙ c.in-Precision.is))) before)
    c.add_clock.ensures

pub returns : goal.returns
returns c =
    let i = c.args.input in
    let spans = c.in-Stable.spans in
    on_ok_weaker c.add_stable.result
    (λ adds x printed w is before.
    let bits = fact_holds c.args.c.now w in
    adds bits
    (subst (λ (h : Header). Stays i h spans bits) (sym c.header-in-Stable.ensures)
    (of_stable c.args.c.now c.args.values.now x printed w is i.net i.tick c.args.found.now
    c.requires.there
    c.requires.undriven spans (sym c.or.ensures ∙ c.in-Stable.is))) before)
    c.add_stable.ensures
