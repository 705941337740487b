use Rattle.std.proofs.Common.{List, subst}
use Rattle.std.proofs.lemmas.Result.{IfOk-weaker}
use Rattle.flat_circuit.specs.declared.case.CaseValue.{CaseValue}
use Rattle.flat_circuit.specs.Circuit.{Circuit}
use Rattle.narrowing.specs.Leaf.{Says}
use Rattle.narrowing.proofs.leaf.evaluate_drawn.Goals as goal

pub returns : goal.returns
returns c =
    let made = c.in_ok-subject.subject in
    IfOk-weaker c.evaluate_subject.result (Says made.circuit made.cases c.args.x)
    (Says c.args.drawn.circuit c.args.drawn.cases c.args.x)
    (λ said says.
    subst (λ (d : Circuit). Says d c.args.drawn.cases c.args.x said) c.in_ok-subject.ensures.circuit
    (subst (λ (cases : List (List CaseValue)). Says made.circuit cases c.args.x said) c.in_ok-subject.ensures.cases says))
    c.evaluate_subject.ensures
