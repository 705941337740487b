use Rattle.std.proofs.Common.{◌∙◌, ◌++◌, ◌<◌, ◌≤◌, ℕ, ap, arith, length}
use Rattle.fixpoint_engine.specs.Settled.{marked_in}
use Rattle.fault_decider.specs.Choices.{input_of_net}
use Rattle.fault_decider.proofs.Numbers.{net_added, nets_whole}
use Rattle.fault_decider.proofs.inputs.add_inputs.Goals as goal

pub loop-place-preserved : goal.loop-place-preserved
loop-place-preserved c =
    let within : c.loop-place.place < length c.args.c.now.nets =
    omega (arith, c.net_count-place-end.ensures, c.loop-place-test.true) in
    net_added c.args.c.now (input_of_net c.args.c.now c.args.values.now c.args.trace.now (marked_in c.args.cone.now)) c.loop-place.place
    c.args.out.now c.loop-place.out c.add_input_of.new.out c.known.ensures within c.loop-place.invariant
    (c.in_ok-add_input_of.ensures
    ∙ ap (λ (i : ℕ). c.loop-place.out ++ (input_of_net c.args.c.now c.args.values.now c.args.trace.now (marked_in c.args.cone.now)) i) c.net_at.ensures)

pub returns : goal.returns
returns c =
    let past : length c.args.c.now.nets ≤ c.loop-place.place =
    omega (arith, c.net_count-place-end.ensures, c.loop-place-test.false) in
    nets_whole c.args.c.now (input_of_net c.args.c.now c.args.values.now c.args.trace.now (marked_in c.args.cone.now)) c.loop-place.place
    c.args.out.now c.loop-place.out c.known.ensures past c.loop-place.invariant
