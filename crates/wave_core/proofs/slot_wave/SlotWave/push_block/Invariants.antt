use Rattle.std.proofs.Common.{◌≡◌, ◌+◌, ◌-◌}
use Rattle.wave_core.specs.Slots.{slots, fold_at}
use Rattle.wave_core.specs.Fold.{span}
use Rattle.wave_core.proofs.slot_wave.SlotWave.push_block.Given as goal

abbrev pub invariant-loop-slot : goal.invariant-loop-slot
invariant-loop-slot g l = record {
  so_far : l.cells.items ≡ slots l.slot (fold_at g.T.Cell.kind l.self.cells.items l.back);
  ahead : l.joined ≡ span g.T.Cell.kind l.self.cells.items l.back (l.from + (l.back + 1)) (l.slot - (l.from + 1));
}
