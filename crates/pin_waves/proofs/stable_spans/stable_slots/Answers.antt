use Rattle.std.proofs.Common.{◌≡◌, ◌∙◌, ◌++◌, ◌∷◌, [], ℕ, ap, length, rules, arith}
use Rattle.scald_base.specs.Time.{period}
use Rattle.wave_core.specs.Slots.{slots}
use Rattle.wave_core.proofs.Slots.{slots_push, length_slots}
use Rattle.pin_waves.proofs.CodeSlots.{stable_slot}
use Rattle.pin_waves.proofs.stable_spans.stable_slots.Goals as goal

pub slots-preserved : goal.slots-preserved
slots-preserved c =
    let pushed : c.push.new.self.items ≡ c.slots.cells.items ++ c.stable_value.result ∷ [] = search rules in
    pushed
    ∙ slots_push c.slots.slot (stable_slot c.args.h.now c.args.spans.now) c.slots.cells.items c.stable_value.result c.slots.invariant
    c.stable_value.ensures

pub returns-clause-cells : goal.returns-clause-cells
returns-clause-cells c =
    let all : c.slots.slot ≡ period c.args.h.now = omega arith in
    c.slots.invariant ∙ ap (λ (n : ℕ). slots n (stable_slot c.args.h.now c.args.spans.now)) all

pub returns-clause-sized : goal.returns-clause-sized
returns-clause-sized c =
    let all : c.slots.slot ≡ period c.args.h.now = omega arith in
    ap length c.slots.invariant ∙ length_slots c.slots.slot (stable_slot c.args.h.now c.args.spans.now) ∙ all
