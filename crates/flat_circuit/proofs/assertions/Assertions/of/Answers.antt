use Rattle.std.proofs.Common.{◌≡◌, ◌∙◌, ap, sym, List}
use Rattle.flat_circuit.specs.Builder.{Asserted, spec_of}
use Rattle.flat_circuit.proofs.Tables.{spec_some, spec_none}
use Rattle.flat_circuit.proofs.assertions.Assertions.of.Goals as goal

pub returns-in-Some : goal.returns-in-Some
returns-in-Some c =
    let e : c.in-Some.spec.now ≡ spec_of c.args.self.now c.args.text.now =
    sym (spec_some c.self.inside.by_text.entries c.args.text.now c.in-Some.spec.now c.in-Some.ensures.value)
    ∙ ap (λ (given : List Asserted). spec_of given c.args.text.now) c.self.view_is in
    rw e at c.copied.ensures

pub returns-in-None : goal.returns-in-None
returns-in-None c = sym (spec_none c.self.inside.by_text.entries c.args.text.now c.in-None.ensures.value) ∙ ap (λ (given : List Asserted). spec_of given c.args.text.now) c.self.view_is
