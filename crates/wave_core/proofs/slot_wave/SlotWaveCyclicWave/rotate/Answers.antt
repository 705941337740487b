use Rattle.std.proofs.Common.{◌≡◌, ◌++◌, [], length, rules, ap, ◌∙◌}
use Rattle.wave_core.specs.Slots.{earlier, later}
use Rattle.wave_core.proofs.Slots.{length_slots, period_length}
use Rattle.wave_core.proofs.slot_wave.SlotWaveCyclicWave.rotate.Goals as goal

pub invariant_of-result : goal.invariant_of-result
invariant_of-result g c =
    let k = g.T.Cell.kind in
    let cells = c.args.self.now.cells.items in
    let empty : c.in_ok-cells.cells.items ≡ [] = search rules in
    let n : length c.push_later.new.cells.items ≡ length cells =
    ap length (c.in_ok-push_later.ensures ∙ ap (λ l. l ++ later k cells c.args.by) empty)
    ∙ length_slots (length cells) (λ p. earlier k cells p c.args.by) in
    record { sized = period_length c.push_later.new.cells.items (length cells) n c.args.self.now.sized }
