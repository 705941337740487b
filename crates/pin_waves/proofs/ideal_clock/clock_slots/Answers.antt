use Rattle.std.proofs.Common.{◌≡◌, ◌<◌, ◌∙◌, ◌++◌, ◌∷◌, [], ap, length, rules, arith}
use Rattle.scald_base.specs.Time.{period}
use Rattle.wave_core.proofs.Slots.{slots_push, length_slots}
use Rattle.pin_waves.proofs.CodeSlots.{early_slot, slot_is_early, early_slots}
use Rattle.pin_waves.proofs.ideal_clock.clock_slots.Goals as goal

pub slots-preserved : goal.slots-preserved
slots-preserved c =
    let pushed : c.push.new.self.items ≡ c.slots.cells.items ++ c.clock_value.result ∷ [] = search rules in
    let some : 0 < period c.args.h.now = omega (arith, c.period-period.ensures.shortest, c.period-period.ensures.is) in
    pushed
    ∙ slots_push c.slots.slot (early_slot c.args.h.now c.args.clock.now c.args.early) c.slots.cells.items c.clock_value.result c.slots.invariant
    (slot_is_early c.args.h.now c.args.clock.now c.period-period.result c.args.early c.slots.slot c.clock_value.result c.period-period.ensures.is some
    c.clock_value.ensures)

pub returns-clause-cells : goal.returns-clause-cells
returns-clause-cells c =
    let all : c.slots.slot ≡ period c.args.h.now = omega arith in
    early_slots c.args.h.now c.args.clock.now c.args.early c.slots.slot c.slots.cells.items all c.slots.invariant

pub returns-clause-sized : goal.returns-clause-sized
returns-clause-sized c =
    let all : c.slots.slot ≡ period c.args.h.now = omega arith in
    ap length c.slots.invariant ∙ length_slots c.slots.slot (early_slot c.args.h.now c.args.clock.now c.args.early) ∙ all
