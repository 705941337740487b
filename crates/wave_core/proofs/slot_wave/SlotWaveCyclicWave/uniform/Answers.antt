use Rattle.std.proofs.Common.{◌≡◌, length, refl, arith, rules, ap, ◌∙◌}
use Rattle.wave_core.proofs.Slots.{length_slots, slots_push}
use Rattle.wave_core.proofs.slot_wave.SlotWaveCyclicWave.uniform.Goals as goal

pub loop-slot-preserved : goal.loop-slot-preserved
loop-slot-preserved g c =
    let next = slots_push c.loop-slot._slot (λ p. c.args.cell) c.loop-slot.cells.items c.args.cell c.loop-slot.invariant refl in
    search rules

pub invariant_of-result : goal.invariant_of-result
invariant_of-result g c =
    let e : length c.loop-slot.cells.items ≡ c.args.period =
    ap length c.loop-slot.invariant ∙ length_slots c.loop-slot._slot (λ p. c.args.cell) ∙ omega arith in
    record { sized = rw e c.requires }

pub returns : goal.returns
returns g c =
    let e : c.loop-slot._slot ≡ c.args.period = omega arith in
    rw e at c.loop-slot.invariant
