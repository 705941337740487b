use Rattle.std.proofs.Common.{◌≡◌, ◌≤◌, ◌-◌, length}
use Rattle.wave_core.specs.Slots.{slots, fold_at}
use Rattle.wave_core.proofs.slot_wave.SlotWaveCyclicWave.fold.Given as goal

abbrev pub invariant-loop-tails : goal.invariant-loop-tails
invariant-loop-tails g l = record {
  so_far : l.cells.items ≡ slots (length l.cells.items) (fold_at g.T.Cell.kind l.self.cells.items l.back);
  within : length l.cells.items ≤ length l.self.cells.items;
}

abbrev pub decreases-loop-tails : goal.decreases-loop-tails
decreases-loop-tails g l = length l.self.cells.items - length l.cells.items
