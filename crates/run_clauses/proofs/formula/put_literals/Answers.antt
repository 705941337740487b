use Rattle.std.proofs.Common.{[], ◌∷◌, ◌++◌, List, ap, false, get_or, refl, sym, ◌∙◌}
use Rattle.std.proofs.lemmas.List.{take_more}
use Rattle.std.proofs.lemmas.List.Elements.{All-nil}
use Rattle.run_clauses.specs.declared.fact.Fact.TheVariants.{Lasts}
use Rattle.run_clauses.specs.declared.fact.Said.{Said}
use Rattle.run_clauses.specs.Formula.{Speaks}
use Rattle.run_clauses.proofs.Numbered.{begins_both, begins_same, literal_said, literal_within}
use Rattle.run_clauses.proofs.formula.put_literals.Goals as goal

pub loop-said-init : goal.loop-said-init
loop-said-init c = record {
  more = begins_same c.args.facts.now.items;
  within = rw c.clear.ensures.items (All-nil (Speaks c.args.facts.now.items));
  said = rw c.clear.ensures.items refl;
}

pub loop-said-preserved : goal.loop-said-preserved
loop-said-preserved c =
    let at = c.in_ok-variable.ensures.is in
    let put = c.in_ok-push.ensures.items in
    let more = c.in_ok-variable.ensures.more in
    let none : Said = record { fact = Lasts 0; holds = false } in
    let said : Said = get_or c.args.clause.now c.loop-said.said-index none in
    record {
      more = begins_both c.args.facts.now.items c.loop-said.facts.items c.number_of.new.facts.items
          c.loop-said.invariant.more more;
      within = rw put
          (literal_within c.loop-said.facts.items c.number_of.new.facts.items more
          c.loop-said.literals.items _ _ c.loop-said.invariant.within at);
      said = rw put
          (literal_said c.loop-said.facts.items c.number_of.new.facts.items more
          c.loop-said.literals.items _ _ c.loop-said.invariant.within at
          ∙ ap (λ (before : List Said). before ++ said ∷ []) c.loop-said.invariant.said
          ∙ sym (take_more c.args.clause.now c.loop-said.said-index none c.loop-said-test.true));
    }

pub returns-in_err-variable-clause-more : goal.returns-in_err-variable-clause-more
returns-in_err-variable-clause-more c =
    begins_both c.args.facts.now.items c.loop-said.facts.items c.number_of.new.facts.items
    c.loop-said.invariant.more c.in_err-variable.ensures.more

pub returns-in_err-push-clause-more : goal.returns-in_err-push-clause-more
returns-in_err-push-clause-more c =
    begins_both c.args.facts.now.items c.loop-said.facts.items c.number_of.new.facts.items
    c.loop-said.invariant.more c.in_ok-variable.ensures.more
