use Rattle.std.proofs.Common.{◌≡◌, ◌+◌, length, min, arith, sym, ap, ◌∙◌}
use Rattle.wave_core.specs.Slots.{slots, fold_at}
use Rattle.wave_core.proofs.Slots.{length_slots}
use Rattle.wave_core.proofs.slot_wave.SlotWaveCyclicWave.fold.Goals as goal

pub loop-tails-smaller : goal.loop-tails-smaller
loop-tails-smaller g c =
    let n : length c.push_block.new.cells.items ≡ min (length c.loop-tails.cells.items + (c.args.back + 1)) (length c.args.self.now.cells.items) =
    ap length c.in_ok-push_block.ensures
    ∙ length_slots (min (length c.loop-tails.cells.items + (c.args.back + 1)) (length c.args.self.now.cells.items)) (fold_at g.T.Cell.kind c.args.self.now.cells.items c.args.back) in
    omega (arith, n)

pub loop-tails-preserved : goal.loop-tails-preserved
loop-tails-preserved g c =
    let n : length c.push_block.new.cells.items ≡ min (length c.loop-tails.cells.items + (c.args.back + 1)) (length c.args.self.now.cells.items) =
    ap length c.in_ok-push_block.ensures
    ∙ length_slots (min (length c.loop-tails.cells.items + (c.args.back + 1)) (length c.args.self.now.cells.items)) (fold_at g.T.Cell.kind c.args.self.now.cells.items c.args.back) in
    record {
      so_far = c.in_ok-push_block.ensures ∙ ap (λ z. slots z (fold_at g.T.Cell.kind c.args.self.now.cells.items c.args.back)) (sym n);
      within = omega (arith, n);
    }
