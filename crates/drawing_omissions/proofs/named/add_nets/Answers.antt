use Rattle.std.proofs.Common.{ℕ, false, List, get_or, ap, sym, ◌∙◌}
use Rattle.std.proofs.lemmas.List.Sums.{fold_more}
use Rattle.flat_circuit.specs.declared.case.CaseValue.{CaseValue}
use Rattle.drawing_omissions.specs.Open.{and_net}
use Rattle.drawing_omissions.proofs.named.add_nets.Goals as goal

pub loop-value-preserved : goal.loop-value-preserved
loop-value-preserved c =
    let none : CaseValue = record { net = 0; one = false } in
    let values = c.args.values.now in
    let k = c.loop-value.value-index in
    c.in_ok-add_net.ensures ∙ ap (λ (keys : List ℕ). and_net keys (get_or values k none)) c.loop-value.invariant
    ∙ sym (fold_more and_net c.args.nets.now.keys values k none c.loop-value-test.true)
