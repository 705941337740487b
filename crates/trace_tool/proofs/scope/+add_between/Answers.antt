use Rattle.std.proofs.Common.{ℕ, ◌≡◌, List, ◌++◌, sym, subst, ◌∙◌}
use Rattle.std.specs.Prelude.{OnOk}
use Rattle.trace_tool.proofs.Scopes.{differ, from_no_scope, shared, to_no_scope}
use Rattle.trace_tool.proofs.scope.+add_between.Goals as goal

pub returns-then-eq : goal.returns-then-eq
returns-then-eq t c =
    let i = c.in-Some-Some.i in
    let j = c.in-Some-Some.j in
    subst (λ (text : List ℕ). OnOk c.add_between.result (c.add_between.new.out ≡ c.args.out.now ++ text))
    (sym (shared c.args.from.now c.args.to.now i j (sym c.in-Some-Some.ensures) (sym c.in-Some-Some.ensures') (sym c.eq.ensures ∙ c.if-eq.true))) c.add_between.ensures

pub returns-else-eq : goal.returns-else-eq
returns-else-eq t c =
    let i = c.in-Some-Some.i in
    let j = c.in-Some-Some.j in
    subst (λ (text : List ℕ). OnOk c.add_both.result (c.add_both.new.out ≡ c.args.out.now ++ text))
    (sym (differ c.args.from.now c.args.to.now i j (sym c.in-Some-Some.ensures) (sym c.in-Some-Some.ensures') (sym c.eq.ensures ∙ c.if-eq.false))) c.add_both.ensures

pub returns-in_default-None : goal.returns-in_default-None
returns-in_default-None t c =
    subst (λ (text : List ℕ). OnOk c.add_both-in_default-None.result (c.add_both-in_default-None.new.out ≡ c.args.out.now ++ text))
    (sym (to_no_scope c.args.from.now c.args.to.now (sym c.in_default-None.ensures'))) c.add_both-in_default-None.ensures

pub returns-in-None-default : goal.returns-in-None-default
returns-in-None-default t c =
    subst (λ (text : List ℕ). OnOk c.add_both-in-None-default.result (c.add_both-in-None-default.new.out ≡ c.args.out.now ++ text))
    (sym (from_no_scope c.args.from.now c.args.to.now (sym c.first_slash.ensures ∙ c.in-None-default.is-0))) c.add_both-in-None-default.ensures
