use Rattle.std.proofs.Common.{ℕ, [], sym, ap, ◌∙◌, arith, append-nil}
use Rattle.std.specs.Option.{option_copied}
use Rattle.flat_circuit.proofs.Numbered.{order_long}
use Rattle.slack_rows.specs.declared.parameter.Subject.TheVariants.{Net as OfNet}
use Rattle.slack_rows.specs.Rows.{limits_at}
use Rattle.slack_rows.proofs.Listed.{all_are, instance_limits, instances_more, net_limits, nets_more, no_instance, no_net}
use Rattle.slack_rows.proofs.limits.parameters_of.Goals as goal
use Rattle.slack_rows.proofs.limits.parameters_of.Goals.{in-Some+in_ok-add, in_default, in-Some-net+in_ok-add-2, in_default-net}

pub loop-number-preserved : goal.loop-number-preserved
loop-number-preserved c =
    let d = c.args.c.now in
    let n = c.loop-number.number in
    elim c.match-instance.branch [
      | in-Some+in_ok-add w ↦
          instances_more d n c.loop-number.out c.match-instance.out _ c.loop-number.invariant (w.out-is ∙ w.in_ok-add.ensures)
          (instance_limits d n w.in-Some.instance.now w.words_of-words.result.now w.in-Some.ensures w.words_of-words.ensures)
      | in_default w ↦
          instances_more d n c.loop-number.out c.match-instance.out [] c.loop-number.invariant (w.out-is ∙ sym (append-nil c.loop-number.out))
          (sym (no_instance d n (sym c.instance.ensures ∙ ap option_copied w.in_default.is)))
    ]

pub loop-place-preserved : goal.loop-place-preserved
loop-place-preserved c =
    let d = c.args.c.now in
    let place = c.loop-place.place in
    let long = order_long d.nets d.order c.known.ensures.by_name in
    let count = c.net_count-place-end.ensures in
    let less = c.loop-place-test.true in
    elim c.match-net.branch [
      | in-Some-net+in_ok-add-2 w ↦
          nets_more d place _ c.loop-place.out c.match-net.out _ (omega (arith, long, count, less)) c.loop-place.invariant (w.out-is ∙ w.in_ok-add-2.ensures)
          (net_limits d c.net_at-number.result w.in-Some-net.net.now w.words_of_net.result.now w.in-Some-net.ensures w.words_of_net.ensures
          ∙ ap (λ (i : ℕ). limits_at d (OfNet i)) c.net_at-number.ensures)
      | in_default-net w ↦
          nets_more d place _ c.loop-place.out c.match-net.out [] (omega (arith, long, count, less)) c.loop-place.invariant (w.out-is ∙ sym (append-nil c.loop-place.out))
          (sym (no_net d c.net_at-number.result (sym c.net.ensures ∙ ap option_copied w.in_default-net.is))
          ∙ ap (λ (i : ℕ). limits_at d (OfNet i)) c.net_at-number.ensures)
    ]

pub returns : goal.returns
returns c =
    let d = c.args.c.now in
    let long = order_long d.nets d.order c.known.ensures.by_name in
    let count = c.net_count-place-end.ensures in
    let past = c.loop-place-test.false in
    all_are d c.loop-place.place c.loop-place.out (omega (arith, long, count, past)) c.loop-place.invariant
