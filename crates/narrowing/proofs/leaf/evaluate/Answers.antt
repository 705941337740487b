use Rattle.std.proofs.Common.{◌≡◌, ℕ, List, ap, ◌∙◌}
use Rattle.std.proofs.lemmas.Result.{IfOk-weaker}
use Rattle.flat_circuit.specs.declared.case.CaseValue.{CaseValue}
use Rattle.narrowing.specs.declared.leaf.Leaf.{Leaf}
use Rattle.narrowing.specs.declared.leaf.Leaf.TheVariants.{Free}
use Rattle.narrowing.specs.Leaf.{IsFreeLeaf, NeverBreaksIn, Says}
use Rattle.narrowing.specs.Narrowed.{narrowed_cases}
use Rattle.narrowing.proofs.Existing.{cases_exist, cases_few}
use Rattle.narrowing.proofs.Never.{never_said, said_in}
use Rattle.narrowing.proofs.SameLists.{at_some}
use Rattle.narrowing.proofs.leaf.evaluate.Goals as goal

pub evaluate_drawn-requires-clause-few : goal.evaluate_drawn-requires-clause-few
evaluate_drawn-requires-clause-few c =
    cases_few c.as_slice.result.now c.args.parts.now c.in-Some.drawn.cases
    (at_some _ c.in-Some.is c.in_ok-found.ensures.cases)

pub evaluate_drawn-requires-clause-exist : goal.evaluate_drawn-requires-clause-exist
evaluate_drawn-requires-clause-exist c =
    let a = c.args in
    let d = c.in-Some.drawn in
    let cases : d.cases ≡ narrowed_cases a.values.now a.parts.now =
    at_some _ c.in-Some.is c.in_ok-found.ensures.cases
    ∙ ap (λ (vs : List CaseValue). narrowed_cases vs a.parts.now) c.as_slice.ensures in
    cases_exist a.c.now d.circuit a.values.now a.parts.now d.cases
    (at_some _ c.in-Some.is c.in_ok-found.ensures.circuit) cases c.requires.exist c.requires.fit

pub returns-in-Some-clause-free : goal.returns-in-Some-clause-free
returns-in-Some-clause-free c =
    let a = c.args in
    let d = c.in-Some.drawn in
    let cases : d.cases ≡ narrowed_cases a.values.now a.parts.now =
    at_some _ c.in-Some.is c.in_ok-found.ensures.cases
    ∙ ap (λ (vs : List CaseValue). narrowed_cases vs a.parts.now) c.as_slice.ensures in
    IfOk-weaker c.evaluate_drawn.result (Says d.circuit d.cases a.x)
    (λ (said : Leaf). (tick : ℕ) → said ≡ Free tick → IsFreeLeaf a.c.now a.values.now a.parts.now a.x tick)
    (λ said says tick free.
    (said_in a.c.now d.circuit a.values.now a.parts.now d.cases a.x said tick
    (at_some _ c.in-Some.is c.in_ok-found.ensures.circuit) cases says free).free)
    c.evaluate_drawn.ensures

pub returns-in-Some-clause-never : goal.returns-in-Some-clause-never
returns-in-Some-clause-never c =
    let a = c.args in
    let d = c.in-Some.drawn in
    let cases : d.cases ≡ narrowed_cases a.values.now a.parts.now =
    at_some _ c.in-Some.is c.in_ok-found.ensures.cases
    ∙ ap (λ (vs : List CaseValue). narrowed_cases vs a.parts.now) c.as_slice.ensures in
    IfOk-weaker c.evaluate_drawn.result (Says d.circuit d.cases a.x)
    (λ (said : Leaf). (tick : ℕ) → said ≡ Free tick → NeverBreaksIn a.c.now a.values.now a.parts.now a.x tick)
    (λ said says tick free.
    never_said a.c.now a.values.now a.parts.now a.x tick c.know.ensures.header c.know.ensures.circuit c.requires.fit
    (said_in a.c.now d.circuit a.values.now a.parts.now d.cases a.x said tick
    (at_some _ c.in-Some.is c.in_ok-found.ensures.circuit) cases says free))
    c.evaluate_drawn.ensures
