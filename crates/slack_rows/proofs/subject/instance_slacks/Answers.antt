use Rattle.std.proofs.Common.{ℕ, Some, length, ap, subst, sym, ◌∙◌}
use Rattle.std.specs.Prelude.{IfOk}
use Rattle.element_kinds.specs.declared.form.Check.{Check}
use Rattle.std.proofs.lemmas.Option.{same_Some}
use Rattle.fixpoint_engine.specs.Waves.{waves_of}
use Rattle.slack_rows.specs.Exact.{AreOfPins}
use Rattle.slack_rows.proofs.Limited.{mark_finding, rise_finding, span_finding}
use Rattle.slack_rows.proofs.subject.instance_slacks.Goals as goal

pub returns-in-Some-clause-finding : goal.returns-in-Some-clause-finding
returns-in-Some-clause-finding g c =
    mark_finding c.args.view.now.circuit.now (waves_of c.args.view.now.waves.now) c.args.instance.now c.in-Some.marked c.gate_slacks.result
    (sym c.may_be_marked.ensures ∙ c.if-may_be_marked.true) (sym c.in-Some.ensures) c.gate_slacks.ensures.level c.gate_slacks.ensures.sides

pub returns-in-Some-clause-gate : goal.returns-in-Some-clause-gate
returns-in-Some-clause-gate g c marked exact kind at =
    let j = c.args.instance.now in
    subst (λ (m : ℕ). IfOk c.gate_slacks.result
    (AreOfPins c.args.view.now.circuit.now (waves_of c.args.view.now.waves.now) j m (length j.pins)))
    (same_Some c.in-Some.marked marked (c.in-Some.ensures ∙ at)) (c.gate_slacks.ensures.are exact)

pub returns-in-Some-SetupHold-clause-finding : goal.returns-in-Some-SetupHold-clause-finding
returns-in-Some-SetupHold-clause-finding g c =
    let arm = c.in-Some-SetupHold in
    rise_finding c.args.view.now.circuit.now (waves_of c.args.view.now.waves.now) c.args.instance.now c.checker_slacks.result
    (sym c.may_be_marked.ensures ∙ c.if-may_be_marked.false) (sym arm.ensures ∙ ap (λ (x : Check). Some x) arm.field-0-is)
    c.checker_slacks.ensures.finding

pub returns-in-Some-RiseFall-clause-finding : goal.returns-in-Some-RiseFall-clause-finding
returns-in-Some-RiseFall-clause-finding g c =
    let arm = c.in-Some-RiseFall in
    span_finding c.args.view.now.circuit.now (waves_of c.args.view.now.waves.now) c.args.instance.now
    c.checker_slacks-in-Some-RiseFall.result
    (sym c.may_be_marked.ensures ∙ c.if-may_be_marked.false) (sym arm.ensures ∙ ap (λ (x : Check). Some x) arm.field-0-is)
    c.checker_slacks-in-Some-RiseFall.ensures.finding
