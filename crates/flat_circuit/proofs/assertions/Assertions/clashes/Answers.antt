use Rattle.std.proofs.Common.{◌≡◌, ◌∙◌, ap, sym, List, subst, MatchBool}
use Rattle.scald_base.specs.declared.assertion.AssertSpec.{AssertSpec}
use Rattle.scald_base.specs.declared.assertion.AssertSpec.TheVariants.{None as Unasserted}
use Rattle.flat_circuit.specs.Builder.{Asserted, spec_of, Differ}
use Rattle.flat_circuit.proofs.Tables.{spec_some, spec_none, none_differs}
use Rattle.flat_circuit.proofs.assertions.Assertions.clashes.Goals as goal

pub returns-in-Some : goal.returns-in-Some
returns-in-Some c =
    let e : c.in-Some.before.now ≡ spec_of c.args.self.now c.args.text.now =
    sym (spec_some c.self.inside.by_text.entries c.args.text.now c.in-Some.before.now c.in-Some.ensures.value)
    ∙ ap (λ (given : List Asserted). spec_of given c.args.text.now) c.self.view_is in
    subst (λ (s : AssertSpec). MatchBool c.differ.result (Differ c.args.spec.now s) (¬ (Differ c.args.spec.now s))) e c.differ.ensures

pub returns-in-None : goal.returns-in-None
returns-in-None c =
    let e : spec_of c.args.self.now c.args.text.now ≡ Unasserted = sym (ap (λ (given : List Asserted). spec_of given c.args.text.now) c.self.view_is)
    ∙ spec_none c.self.inside.by_text.entries c.args.text.now c.in-None.ensures.value in
    λ d. none_differs c.args.spec.now (spec_of c.args.self.now c.args.text.now) e d
