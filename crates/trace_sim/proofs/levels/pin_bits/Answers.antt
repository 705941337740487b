use Rattle.std.proofs.Common.{◌∙◌, ◌++◌, sym, ap, inl, inr, List, append-nil}
use Rattle.std.specs.Prelude.{◌⊎◌, length, ◌≤◌}
use Rattle.scald_base.specs.Signal.{Signal}
use Rattle.element_kinds.specs.Equation.{bits_at}
use Rattle.trace_sim.specs.Making.{seen}
use Rattle.trace_sim.proofs.Steps.{no_signals}
use Rattle.trace_sim.proofs.levels.pin_bits.Goals as goal
use Rattle.trace_sim.proofs.levels.pin_bits.Goals.{then-pins-test+else-place-wires, else-pins-test}

pub returns : goal.returns
returns c =
    let past : (length c.args.pins.now ≤ c.pins.place) ⊎ (length c.args.wires.now ≤ c.pins.place) =
    elim c.pins-test.branch [ then-pins-test+else-place-wires w ↦ inr w.if-place-wires.false | else-pins-test w ↦ inl w.pins-test.false ] in
    let none = no_signals (seen c.args.bits.now) c.args.pins.now c.args.wires.now c.pins.place past in
    sym (append-nil c.pins.shown.items) ∙ sym (ap (λ (xs : List Signal). c.pins.shown.items ++ bits_at xs c.args.t) none) ∙ c.pins.invariant.so_far
