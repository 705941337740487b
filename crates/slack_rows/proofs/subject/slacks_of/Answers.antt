use Rattle.std.proofs.Common.{◌≡◌, ℕ, ◌∙◌, sym, ap, subst, Option, Some}
use Rattle.std.specs.Prelude.{IfOk, slice_get}
use Rattle.std.specs.Option.{option_copied}
use Rattle.scald_base.specs.Time.{period}
use Rattle.flat_circuit.specs.declared.instance.Instance.{Instance}
use Rattle.fixpoint_engine.specs.Waves.{waves_of}
use Rattle.slack_rows.specs.declared.parameter.Subject.{Subject}
use Rattle.slack_rows.specs.declared.parameter.Word.{Word as Limit}
use Rattle.slack_rows.specs.Exact.{AreOfInstance}
use Rattle.slack_rows.specs.Known.{TellLimits}
use Rattle.slack_rows.specs.Limit.{by_arrivals, instance_by_arrivals, finding_in, finding_instance}
use Rattle.slack_rows.specs.Rows.{limits_of, limits_of_instance}
use Rattle.std.proofs.lemmas.Option.{same_Some}
use Rattle.slack_rows.proofs.Limited.{net_finding}
use Rattle.slack_rows.proofs.Subjects.{of_instance}
use Rattle.slack_rows.proofs.subject.slacks_of.Goals as goal

pub returns-in-Some-instance-clause-finding : goal.returns-in-Some-instance-clause-finding
unfolding finding_in by_arrivals
returns-in-Some-instance-clause-finding g c =
    let circuit = c.args.view.now.circuit.now in
    let ws = waves_of c.args.view.now.waves.now in
    let at : Some c.in-Some-instance.instance.now ≡ slice_get c.args.view.now.circuit.now.instances c.in-Instance.number =
    ap option_copied (sym c.in-Some-instance.is) ∙ c.instance.ensures in
    subst (λ (s : Subject). IfOk c.instance_slacks.result (TellLimits (period circuit.header) (by_arrivals circuit ws s) (finding_in circuit ws s) (limits_of circuit s)))
    (sym c.in-Instance.is)
    (subst (λ (o : Option Instance). IfOk c.instance_slacks.result (TellLimits (period circuit.header) (instance_by_arrivals circuit ws o)
    (λ (word : Limit). finding_instance circuit ws word o) (limits_of_instance o))) at c.instance_slacks.ensures.finding)

pub returns-in-Some-instance-clause-are : goal.returns-in-Some-instance-clause-are
returns-in-Some-instance-clause-are g c k j exact is here =
    let circuit = c.args.view.now.circuit.now in
    let ws = waves_of c.args.view.now.waves.now in
    let own = c.in-Some-instance.instance.now in
    let at : Some own ≡ slice_get circuit.instances c.in-Instance.number =
    ap option_copied (sym c.in-Some-instance.is) ∙ c.instance.ensures in
    let number : c.in-Instance.number ≡ k = (let same = sym c.in-Instance.is ∙ is in cc) in
    let same : own ≡ j = same_Some own j (at ∙ ap (λ (n : ℕ). slice_get circuit.instances n) number ∙ here) in
    subst (λ (x : Instance). IfOk c.instance_slacks.result (AreOfInstance circuit ws x)) same
    (of_instance circuit ws own c.instance_slacks.result (λ marked. c.instance_slacks.ensures.gate marked exact)
    (λ check. c.instance_slacks.ensures.checker check exact))

pub returns-in-Some-clause-finding : goal.returns-in-Some-clause-finding
returns-in-Some-clause-finding g c =
    let circuit = c.args.view.now.circuit.now in
    let net = c.in-Some.net.now in
    let at : Some net ≡ slice_get circuit.nets c.in-Net.number = ap option_copied (sym c.in-Some.is) ∙ c.net.ensures in
    net_finding circuit (waves_of c.args.view.now.waves.now) c.in-Net.number net c.args.subject c.net_slacks.result c.in-Net.is at
    (sym c.is_held.ensures ∙ c.if-is_held.true) c.net_slacks.ensures.finding
