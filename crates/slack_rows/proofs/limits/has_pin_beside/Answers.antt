use Rattle.std.proofs.Common.{List, length, sym, ap, ◌∙◌, arith, below_more}
use Rattle.flat_circuit.specs.declared.instance.Pin.{Pin}
use Rattle.slack_rows.specs.Limit.{is_beside}
use Rattle.slack_rows.proofs.Listed.{any_found, any_nowhere, beside_at, beside_not}
use Rattle.slack_rows.proofs.limits.has_pin_beside.Goals as goal
use Rattle.slack_rows.proofs.limits.has_pin_beside.Goals.{else-place-marked-via-then-place-marked+else-is_net, else-place-marked-via-else-place-marked}

pub returns-then-is_net : goal.returns-then-is_net
returns-then-is_net c =
    let gate = c.args.gate.now in
    let long = ap (λ (pins : List Pin). length pins) c.as_slice-pins.ensures in
    let less = c.loop-place-test.true in
    sym (any_found (is_beside gate c.args.marked) (length gate.pins) 0 c.loop-place.place (omega arith) (omega (arith, long, less))
    (beside_at gate c.args.marked c.loop-place.place c.as_slice-pins.result.now _ c.is_net.result c.as_slice-pins.ensures
    c.if-place-marked.true less c.is_net.ensures ∙ c.if-is_net.true))

pub loop-place-preserved : goal.loop-place-preserved
loop-place-preserved c =
    let gate = c.args.gate.now in
    below_more _ _ c.loop-place.invariant (elim c.else-place-marked.branch [
      | else-place-marked-via-then-place-marked+else-is_net w ↦
          beside_at gate c.args.marked c.loop-place.place c.as_slice-pins.result.now _ w.is_net.result c.as_slice-pins.ensures
          w.if-place-marked.true c.loop-place-test.true w.is_net.ensures ∙ w.if-is_net.false
      | else-place-marked-via-else-place-marked w ↦ beside_not gate c.args.marked c.loop-place.place w.if-place-marked.false
    ])

pub returns : goal.returns
returns c =
    let gate = c.args.gate.now in
    let long = ap (λ (pins : List Pin). length pins) c.as_slice-pins.ensures in
    let past = c.loop-place-test.false in
    sym (any_nowhere (is_beside gate c.args.marked) (length gate.pins) 0 (λ k from below. c.loop-place.invariant k (omega (arith, long, past, below))))
