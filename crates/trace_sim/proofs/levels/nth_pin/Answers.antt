use Rattle.std.proofs.Common.{◌∙◌, sym, inl, inr}
use Rattle.trace_sim.specs.Making.{seen}
use Rattle.trace_sim.proofs.Steps.{nth_pin_is, nth_pin_none}
use Rattle.trace_sim.proofs.levels.nth_pin.Goals as goal
use Rattle.trace_sim.proofs.levels.nth_pin.Goals.{else-place-pins-via-then-place-pins+else-place-wires, else-place-pins-via-else-place-pins}

pub returns-then-place-wires : goal.returns-then-place-wires
returns-then-place-wires c = c.pin_bit.ensures ∙ sym (nth_pin_is (seen c.args.bits.now) c.args.pins.now c.args.wires.now c.args.place c.args.t _ _ c.if-place-pins.true c.if-place-wires.true)

pub returns-else-place-pins : goal.returns-else-place-pins
returns-else-place-pins c =
    sym (nth_pin_none (seen c.args.bits.now) c.args.pins.now c.args.wires.now c.args.place c.args.t
    (elim c.else-place-pins.branch [ else-place-pins-via-then-place-pins+else-place-wires w ↦ inr w.if-place-wires.false | else-place-pins-via-else-place-pins w ↦ inl w.if-place-pins.false ]))
