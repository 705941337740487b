use Rattle.std.proofs.Common.{◌∙◌, ◌++◌, ℕ, Option, ap}
use Rattle.fixpoint_engine.specs.Settled.{marked_in}
use Rattle.std.proofs.lemmas.Result.{on_ok_weaker}
use Rattle.listing.proofs.Parts.{both, ok_second}
use Rattle.narrowing.specs.Named.{last_of}
use Rattle.fault_decider.specs.Choices.{delays_text, inputs_text, offsets_text, steps_text, wires_text}
use Rattle.fault_decider.specs.Lines.{break_text, own_instance}
use Rattle.fault_decider.proofs.lines.add_showing.Goals as goal

pub returns : goal.returns
returns c =
    let cc = c.args.c.now in
    let trace = c.args.showing.now.trace in
    let cone = marked_in c.args.cone.now in
    let named = c.args.showing.now.named in
    let old = c.args.out.now in
    let a = break_text c.args.x named in
    let b = delays_text cc trace cone in
    let w = wires_text cc trace cone (own_instance c.args.x) in
    let o = offsets_text cc trace cone in
    let i = inputs_text cc c.args.values.now trace cone in
    let s = steps_text cc trace cone (last_of named) in
    let two = both old c.add_break.new.out c.add_delays.new.out a b c.in_ok-add_break.ensures c.in_ok-add_delays.ensures in
    let three = both old c.add_delays.new.out c.add_wires.new.out (a ++ b) w two
    (c.in_ok-add_wires.ensures ∙ ap (λ (own : Option ℕ). c.add_delays.new.out ++ wires_text cc trace cone own) c.own_instance.ensures) in
    let four = both old c.add_wires.new.out c.add_offsets.new.out (a ++ b ++ w) o three c.in_ok-add_offsets.ensures in
    let five = both old c.add_offsets.new.out c.add_inputs.new.out (a ++ b ++ w ++ o) i four c.in_ok-add_inputs.ensures in
    ok_second c.add_steps.result old c.add_inputs.new.out c.add_steps.new.out (a ++ b ++ w ++ o ++ i) s five
    (on_ok_weaker c.add_steps.result
    (λ h. h ∙ ap (λ (n : ℕ). c.add_inputs.new.out ++ steps_text cc trace cone n) c.last.ensures)
    c.add_steps.ensures)
